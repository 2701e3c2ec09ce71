-- The hyphenated form of a list names fonts of the list, and has codes and kerns of them.
use Rattle.std.proofs.Common.{◌≡◌, ℕ, zero, suc, ℤ, pos, negsuc, ◌<◌, Bool, true, false, ◌&&◌, List, [], ◌∷◌, ◌++◌, length, take, drop, All, refl, ap, sym, ◌∙◌, arith}
use Rattle.std.specs.Prelude.{Option, Some, None, if◌then◌else◌, nat_lt, slice_get, ⊤}
use Rattle.std.proofs.lemmas.List.Elements.{All-nil, All-cons, All-head, All-drop, All-weaker}
use Rattle.font_stock.specs.Fonts.{hyphen_of}
use Rattle.font_stock.specs.declared.font.Font.{Font}
use Rattle.micro_num.specs.declared.tables.Tables.{Tables}
use Rattle.tfm_read.specs.Ranges.{exists_at}
use Rattle.tfm_read.specs.declared.tfm.Tfm.{Tfm}
use Rattle.hlist.specs.Bounds.{OfFont, HasChar, IsSubOf, AreListsOf, IsItemOf}
use Rattle.hlist.specs.declared.item.Item.{Item}
use Rattle.hlist.specs.declared.item.KernLeft.{KernLeft}
use Rattle.hlist.specs.declared.item.Item.TheVariants.{Char, Lig, FontKern, Kern, Glue, Penalty, Disc, Box}
use Rattle.hlist.specs.declared.item.Sub.{Sub}
use Rattle.hlist.specs.declared.item.Sub.TheVariants.{Char as sub_char, Lig as sub_lig, FontKern as sub_kern}
use Rattle.hlist_runs.specs.Lawful.{IsLeftIn, IsSubIn, IsLawfulList}
use Rattle.hlist_hyph.specs.Fonts.{PassesLeft, PassesSub, PassLists, Passes}
use Rattle.hlist_hyph.specs.Hyphenated.{Places, hyphenated_items}
use Rattle.hlist_hyph.specs.Pieces.{Hyphening, begins_with_char, behind_char}
use Rattle.hlist_hyph.specs.Words.{first_font, HasFontBelow}
use Rattle.hlist_hyph.specs.declared.word.Word.{Word}
use Rattle.hlist_hyph.proofs.KeepLemmas.{Keeps, KeepsWords, from-keeps}
use Rattle.hlist_hyph.proofs.WordLemmas.{both, IsWord}

behind-if : (P : Sub → Type 0) (one : Sub) (subs : List Sub) (b : Bool) → P one → All P subs
    → All P (if b then drop 1 subs else one ∷ [])
behind-if P one subs true own all = All-drop P 1 subs all
behind-if P one subs false own all = All-cons P one [] own (All-nil P)

-- ---- codes and kerns

if-exists : (tfm : Tfm) (code hyphen : ℕ) (b : Bool) → (nat_lt code 256 && exists_at tfm.chars code) ≡ b
    → (if b then Some code else None) ≡ Some hyphen → exists_at tfm.chars hyphen ≡ true
if-exists tfm code hyphen true holds e =
    let same : code ≡ hyphen = cc in
    rw same at (both (nat_lt code 256) (exists_at tfm.chars code) holds).1
if-exists tfm code hyphen false holds e = absurd cc

hyphen-exists : (tfm : Tfm) (h : ℤ) (hyphen : ℕ) → hyphen_of tfm h ≡ Some hyphen → exists_at tfm.chars hyphen ≡ true
hyphen-exists tfm (pos code) hyphen e = if-exists tfm code hyphen (nat_lt code 256 && exists_at tfm.chars code) refl e
hyphen-exists tfm (negsuc n) hyphen e = absurd cc

-- the hyphen character of a word is one of its font
hyphen-own : (tables : Tables) (stock : List Font) (w : Hyphening) (items : List Item) (word : Word)
    → IsWord tables stock items word → w.number ≡ word.number → w.hyphen ≡ word.hyphen
    → IsSubOf stock (sub_char w.number w.hyphen)
hyphen-own tables stock w items word found number hyphen =
    rw (number, hyphen) (record {
      font = found.font;
      is = found.is;
      holds = hyphen-exists found.font.tfm found.font.codes.hyphen word.hyphen found.hyphen;
    })

own-keeps : (stock : List Font) (w : Hyphening) → IsSubOf stock (sub_char w.number w.hyphen) → Keeps (IsItemOf stock) stock w
own-keeps stock w hyphen = record {
  ligature = λ font code n covers pre post own few first last. record {
    pre = first.own;
    post = last.own;
    whole = All-cons (IsSubOf stock) (sub_lig font code covers) [] own (All-nil (IsSubOf stock));
  };
  between = λ code subs lawful. record {
    pre = behind-if (IsSubOf stock) (sub_char w.number w.hyphen) subs (begins_with_char code subs) hyphen lawful.own;
    post = All-nil (IsSubOf stock);
    whole = All-nil (IsSubOf stock);
  };
  kern = λ code subs width left lawful own. record {
    pre = behind-if (IsSubOf stock) (sub_char w.number w.hyphen) subs (begins_with_char code subs) hyphen lawful.own;
    post = All-nil (IsSubOf stock);
    whole = All-cons (IsSubOf stock) (sub_kern width left) [] own (All-nil (IsSubOf stock));
  };
}

pub hyphenated-own : (tables : Tables) (stock : List Font) (places : Places) (items : List Item) → All (IsItemOf stock) items
    → All (IsItemOf stock) (hyphenated_items tables stock places items)
hyphenated-own tables stock places items all =
    from-keeps (IsItemOf stock) tables stock places 0 items
    (λ w items word found own number hyphen within.
    own-keeps stock w (hyphen-own tables stock w items word found number hyphen))
    all

-- ---- fonts

left-passes : (test : ℕ → Bool) (number : ℕ) (left : Option KernLeft) → test number ≡ true → IsLeftIn number left → PassesLeft test left
left-passes test number None passes own = tt
left-passes test number (Some left) passes own = rw own passes

sub-passes : (test : ℕ → Bool) (number : ℕ) → test number ≡ true → (sub : Sub) → IsSubIn number sub → PassesSub test sub
sub-passes test number passes (sub_char font code) own = rw own passes
sub-passes test number passes (sub_lig font code covers) own = rw own passes
sub-passes test number passes (sub_kern width left) own = left-passes test number left passes own

first-passes : (test : ℕ → Bool) (items : List Item) (number : ℕ) → All (Passes test) items → first_font items ≡ Some number
    → test number ≡ true
first-passes test [] number all e = absurd cc
first-passes test (Char font code ∷ items) number all e =
    let same : font ≡ number = cc in rw same at (All-head (Passes test) (Char font code) items all)
first-passes test (Lig font code covers ∷ items) number all e =
    let same : font ≡ number = cc in rw same at (All-head (Passes test) (Lig font code covers) items all)
first-passes test (FontKern width left ∷ items) number all e = absurd cc
first-passes test (Kern width ∷ items) number all e = absurd cc
first-passes test (Glue glue ∷ items) number all e = absurd cc
first-passes test (Penalty value ∷ items) number all e = absurd cc
first-passes test (Disc lists ∷ items) number all e = absurd cc
first-passes test (Box width ∷ items) number all e = absurd cc

lists-pass : (test : ℕ → Bool) (number : ℕ) (subs : List Sub) → test number ≡ true → All (IsSubIn number) subs → All (PassesSub test) subs
lists-pass test number subs passes all =
    All-weaker (IsSubIn number) (PassesSub test) (sub-passes test number passes) subs all

fonts-keep : (test : ℕ → Bool) (stock : List Font) (w : Hyphening) → test w.number ≡ true → Keeps (Passes test) stock w
fonts-keep test stock w passes = record {
  ligature = λ font code n covers pre post own few first last. record {
    pre = lists-pass test w.number pre passes first.in_font;
    post = lists-pass test w.number post passes last.in_font;
    whole = All-cons (PassesSub test) (sub_lig font code covers) [] own (All-nil (PassesSub test));
  };
  between = λ code subs lawful. record {
    pre = behind-if (PassesSub test) (sub_char w.number w.hyphen) subs (begins_with_char code subs) passes (lists-pass test w.number subs passes lawful.in_font);
    post = All-nil (PassesSub test);
    whole = All-nil (PassesSub test);
  };
  kern = λ code subs width left lawful own. record {
    pre = behind-if (PassesSub test) (sub_char w.number w.hyphen) subs (begins_with_char code subs) passes (lists-pass test w.number subs passes lawful.in_font);
    post = All-nil (PassesSub test);
    whole = All-cons (PassesSub test) (sub_kern width left) [] own (All-nil (PassesSub test));
  };
}

pub hyphenated-fonts : (test : ℕ → Bool) (tables : Tables) (stock : List Font) (places : Places) (items : List Item)
    → All (Passes test) items → All (Passes test) (hyphenated_items tables stock places items)
hyphenated-fonts test tables stock places items all =
    from-keeps (Passes test) tables stock places 0 items
    (λ w items word found own number hyphen within.
    fonts-keep test stock w (rw number (first-passes test items word.number own found.first)))
    all

-- ---- the fonts of a list of a stock are among its fonts

get-below : {A : Type 0} (xs : List A) (k : ℕ) (x : A) → slice_get xs k ≡ Some x → k < length xs
get-below [] k x e = absurd cc
get-below (y ∷ ys) zero x e = omega arith
get-below (y ∷ ys) (suc k) x e = let more = get-below ys k x e in omega (arith, more)

item-below : (stock : List Font) (item : Item) → IsItemOf stock item → HasFontBelow (length stock) item
item-below stock (Char font code) own = get-below stock font own.font own.is
item-below stock (Lig font code covers) own = get-below stock font own.font own.is
item-below stock (FontKern width left) own = tt
item-below stock (Kern width) own = tt
item-below stock (Glue glue) own = tt
item-below stock (Penalty value) own = tt
item-below stock (Disc lists) own = tt
item-below stock (Box width) own = tt

pub items-below : (stock : List Font) (items : List Item) → All (IsItemOf stock) items → All (HasFontBelow (length stock)) items
items-below stock items all = All-weaker (IsItemOf stock) (HasFontBelow (length stock)) (item-below stock) items all
