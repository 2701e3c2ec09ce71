-- A name is ASCII, so that its bytes are a text.
use Rattle.std.proofs.Common.{◌≡◌, ◌∙◌, ℕ, ◌<◌, true, arith}
use Rattle.std.proofs.lemmas.Str.{IsUtf8-from_ascii}
use Rattle.std.proofs.lemmas.Str.Ascii.{IsAscii-from_all}
use Rattle.std.proofs.lemmas.Bool.Decides.{nat_tests}
use Rattle.job_text.specs.Fits.{is_file_byte}
use Rattle.job_dvi.proofs.rows.name_text.Goals as goal

file_byte : (byte : ℕ) → is_file_byte byte ≡ true → byte < 128
file_byte byte h = grind (arith, nat_tests)

pub returns : goal.returns
returns c =
    c.from_string.ensures
    ∙ c.in_ok-text.ensures.ok (IsUtf8-from_ascii _ (IsAscii-from_all _ (λ i d inside. file_byte _ (c.requires.bytes i d inside))))
