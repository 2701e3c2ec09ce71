use Rattle.std.proofs.Common.{◌≡◌, ◌+◌, List, length, sym, ap, ◌∙◌, subst, length-append, arith}
use Rattle.std.specs.Prelude.{not}
use Rattle.job_reading.specs.declared.token.Token.{Token}
use Rattle.job_reading.specs.Lexemes.{ends_paragraph}
use Rattle.job_reading.specs.Repeats.{GoesOn}
use Rattle.job_reading.specs.PlainTokens.{plain_tokens}
use Rattle.job_reading.specs.Rest.{left}
use Rattle.job_text.specs.declared.setting.Setting.{Setting}
use Rattle.job_text.specs.Parts.{part}
use Rattle.job_text.proofs.PlainText.{text_goes}
use Rattle.job_text.proofs.paragraph.plain_parts.Goals as goal

pub returns-clause-value : goal.returns-clause-value
returns-clause-value c = λ bytes names whole on.
    subst (λ (s : Setting). GoesOn ends_paragraph (part bytes names) s (left c.plain_text.result.1) whole) (sym c.in_ok-add_plain.ensures)
    (text_goes bytes names whole _ _ _ _ _ (subst (λ (toks : List Token). GoesOn ends_paragraph (part bytes names) c.args.setting.now toks whole) c.plain_text.ensures.value on) (c.is_none.ensures ∙ ap not c.if-is_none.false))

pub returns-clause-within : goal.returns-clause-within
returns-clause-within c =
    let text : List Token = plain_tokens c.plain_text.result.0.bytes.now c.plain_text.result.0.from c.plain_text.result.0.count in
    let behind : List Token = left c.plain_text.result.1 in
    let total : length (left c.args.rest) ≡ length text + length behind = ap length c.plain_text.ensures.value ∙ length-append text behind in
    omega (arith, total)
