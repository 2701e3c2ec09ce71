use Rattle.std.proofs.Common.{◌≡◌, ℕ, ◌<◌, true, arith, ap, sym, ◌∙◌, subst, ◌++◌, codes}
use Rattle.std.specs.Str.{IsUtf8}
use Rattle.std.proofs.lemmas.Str.{IsUtf8-from_ascii}
use Rattle.std.proofs.lemmas.Str.Ascii.{IsAscii-from_all}
use Rattle.std.proofs.lemmas.Bool.Decides.{nat_tests}
use Rattle.job_text.specs.Fits.{is_file_byte}
use Rattle.job_fonts.proofs.name.file_name.Goals as goal

file_byte : (byte : ℕ) → is_file_byte byte ≡ true → byte < 128
file_byte byte h = grind (arith, nat_tests)

pub returns : goal.returns
returns c =
    let text : IsUtf8 c.args.decl.now.name = IsUtf8-from_ascii _ (IsAscii-from_all _ (λ i d inside. file_byte _ (c.requires.bytes i d inside))) in
    let name = c.in_ok-name.ensures.ok (subst IsUtf8 (sym c.as_slice.ensures) text) in
    c.in_ok-push_str.ensures.bytes ∙ ap (λ bytes. bytes ++ codes ".tfm") (name ∙ c.as_slice.ensures)
