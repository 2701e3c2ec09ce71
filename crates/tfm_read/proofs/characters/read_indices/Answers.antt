use Rattle.std.proofs.Common.{◌≡◌, ◌+◌, ◌<◌, arith}
use Rattle.std.proofs.lemmas.Result.{err_from_is_err_and}
use Rattle.tfm_read.specs.Checks.{char_check}
use Rattle.tfm_read.specs.Lengths.{code_count}
use Rattle.tfm_read.proofs.Answering.{answers_found}
use Rattle.tfm_read.proofs.CharWords.{indices_none, indices_more, indices_all}
use Rattle.tfm_read.proofs.Parts.{parts_within}
use Rattle.tfm_read.proofs.characters.read_indices.Goals as goal

pub loop-i-init : goal.loop-i-init
loop-i-init c = indices_none c.args.bytes.now c.args.lengths.now c.args.place c.no_indices-indices.result c.no_indices-indices.ensures.len c.no_indices-indices.ensures.all

pub indices_at-requires-clause-within : goal.indices_at-requires-clause-within
indices_at-requires-clause-within c =
    let p = parts_within c.args.lengths.now in
    omega (arith, p.chars, c.code_count-i-end.ensures, c.requires.place, c.requires.laid_out.within)

pub indices_at-requires-clause-few : goal.indices_at-requires-clause-few
indices_at-requires-clause-few c =
    let p = parts_within c.args.lengths.now in
    omega (arith, p.chars, c.code_count-i-end.ensures, c.requires.place, c.requires.laid_out.end)

pub returns-in_err-found : goal.returns-in_err-found
returns-in_err-found c =
    let p = err_from_is_err_and c.from_residual.result c.from_residual.ensures.1 in
    let below : c.loop-i.i < code_count c.args.lengths.now = omega (arith, c.code_count-i-end.ensures) in
    rw (p.1, p.2)
    (answers_found _ _ (char_check c.args.bytes.now c.args.lengths.now c.args.place) c.loop-i.i (code_count c.args.lengths.now) c.in_err-found.field-0.0 below c.loop-i.invariant.sound c.in_err-found.ensures)

pub loop-i-preserved : goal.loop-i-preserved
loop-i-preserved c =
    let within : c.args.lengths.now.first_code + c.loop-i.i < 256 =
    omega (arith, c.code_count-i-end.ensures, c.requires.laid_out.last, c.requires.laid_out.codes) in
    indices_more c.args.bytes.now c.args.lengths.now c.args.place c.loop-i.i c.from-first_code.result c.loop-i.indices c.in_ok-found.found c.from-first_code.ensures within c.loop-i.invariant c.in_ok-found.ensures.0 c.in_ok-found.ensures.1

pub returns : goal.returns
returns c =
    let all : c.loop-i.i ≡ code_count c.args.lengths.now = omega (arith, c.code_count-i-end.ensures) in
    indices_all c.args.bytes.now c.args.lengths.now c.args.place c.loop-i.i c.loop-i.indices c.requires.laid_out c.requires.place all c.loop-i.invariant
