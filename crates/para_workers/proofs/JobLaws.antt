-- What a job that was read says of its pages.
--     places-made       a table of its patterns and exceptions has its places
--     set_par-made, lines_of_par-made    so a paragraph is set by the one as by the other
--     job-settable      its paragraphs can be set
use Rattle.std.proofs.Common.{◌≡◌, ℕ, ◌<◌, ◌^◌, ap, arith, Bool, false, ℤ, List, [], ◌∷◌, length, ◌||◌}
use Rattle.std.specs.Prelude.{All, unsigned_abs}
use Rattle.std.proofs.lemmas.Int.{ints}
use Rattle.std.proofs.lemmas.List.Elements.{All-cons, All-nil}
use Rattle.liang_hyph.specs.Table.{IsMadeOf, PatternTable}
use Rattle.font_stock.specs.declared.font.Font.{Font}
use Rattle.micro_num.specs.declared.paragraph.Par.{Par}
use Rattle.micro_num.specs.declared.paragraph.PartAt.{PartAt}
use Rattle.micro_num.specs.declared.params.Params.{Params}
use Rattle.micro_num.specs.declared.part.Part.{Part}
use Rattle.micro_num.specs.declared.part.Part.TheVariants.{Char, Space, Normal, Tie, Kern, Skip, Penalty, Hyphen, Disc, Font as font_part}
use Rattle.hlist_build.specs.Parts.{NamesFont}
use Rattle.hlist_hyph.specs.Hyphenated.{Places, places_in}
use Rattle.job_reading.specs.Bounds.{IsLength}
use Rattle.job_reading.specs.declared.word.DimensionParameter.TheVariants.{Hsize, Hangindent}
use Rattle.job_text.specs.Fits.{JobFits, PartsFit, NamesFont as names_font, is_font}
use Rattle.job_text.specs.declared.job.Job.{Job}
use Rattle.para_workers.specs.Pages.{IsSettable, places_for}
use Rattle.para_workers.specs.SetPar.{lines_of_par, set_par}

pub places-made : (table : PatternTable) (job : Job) → IsMadeOf table job.patterns job.exceptions → places_in table ≡ places_for job
places-made table job made = λ i params word. made word params.lefthyphenmin params.righthyphenmin i

pub set_par-made : (table : PatternTable) (job : Job) (stock : List Font) (par : Par) → IsMadeOf table job.patterns job.exceptions
    → set_par par job.tables (places_in table par.params) stock ≡ set_par par job.tables (places_for job par.params) stock
set_par-made table job stock par made =
    ap (λ (places : Params → Places). set_par par job.tables (places par.params) stock) (places-made table job made)

pub lines_of_par-made : (table : PatternTable) (job : Job) (stock : List Font) (par : Par) → IsMadeOf table job.patterns job.exceptions
    → lines_of_par par job.tables (places_in table par.params) stock ≡ lines_of_par par job.tables (places_for job par.params) stock
lines_of_par-made table job stock par made =
    ap (λ (places : Params → Places). lines_of_par par job.tables (places par.params) stock) (places-made table job made)

-- ---- what each paragraph is kept to

names-one : (count : ℕ) (part : Part) → names_font count part → NamesFont count part
names-one count (Char code) fits = tt
names-one count Space fits = tt
names-one count Normal fits = tt
names-one count Tie fits = tt
names-one count (Kern width) fits = tt
names-one count (Skip glue) fits = tt
names-one count (Penalty value) fits = tt
names-one count Hyphen fits = tt
names-one count (Disc lists) fits = tt
names-one count (font_part number) fits = fits

names-all : (count : ℕ) (begun : Bool) (parts : List PartAt) → PartsFit count begun parts → All (λ one. NamesFont count one.part) parts
names-all count begun [] fits = All-nil (λ one. NamesFont count one.part)
names-all count begun (one ∷ parts) fits =
    All-cons (λ one. NamesFont count one.part) one parts (names-one count one.part fits.0) (names-all count (begun || is_font one.part) parts fits.2)

short-length : (size : ℤ) → IsLength size → unsigned_abs size < 2 ^ 30
short-length size fits = omega (arith, ints, fits.low, fits.high)

pub job-settable : (job : Job) → JobFits job → All (IsSettable (length job.fonts)) job.pars
job-settable job fits = λ i d inside.
    let params = fits.params i d inside in
    let shape = fits.shapes i d inside in
    record {
      names = names-all (length job.fonts) false _ (fits.pars i d inside);
      lengths = record {
        hsize = short-length _ (params.dimensions Hsize);
        hangindent = short-length _ (params.dimensions Hangindent);
        shape = shape.lines;
      };
      shape = omega (arith, shape.few);
    }
