use Rattle.std.proofs.Common.{◌≡◌, refl, ◌∙◌}
use Rattle.std.proofs.lemmas.Result.{err_from_is_err_and}
use Rattle.micro_words.specs.Documents.{job as gen_job}
use Rattle.micro_words.specs.Fonts.{tiny10}
use Rattle.micro_document.proofs.GenSteps.{gen_fontless, gen_unset, gen_set}
use Rattle.micro_document.proofs.generated.generated.Goals as goal

pub returns-in_err-stock-clause-settles : goal.returns-in_err-stock-clause-settles
returns-in_err-stock-clause-settles g c =
    let job : c.from_vec.result ≡ gen_job c.args.number = c.from_vec.ensures ∙ c.in_ok-gen_job.ensures.job in
    let font : c.as_slice.result.now ≡ tiny10 = c.as_slice.ensures.value ∙ c.in_ok-bytes.ensures in
    let p = err_from_is_err_and c.from_residual-in_err-stock.result c.from_residual-in_err-stock.ensures.1 in
    rw (p.1, p.2) (gen_fontless c.args.number c.from_vec.result c.as_slice.result.now c.in_ok-job.job _ job font c.in_ok-job.ensures.job c.in_err-stock.ensures.refuses)

pub returns-in_err-_out-clause-settles : goal.returns-in_err-_out-clause-settles
returns-in_err-_out-clause-settles g c =
    let job : c.from_vec.result ≡ gen_job c.args.number = c.from_vec.ensures ∙ c.in_ok-gen_job.ensures.job in
    let font : c.as_slice.result.now ≡ tiny10 = c.as_slice.ensures.value ∙ c.in_ok-bytes.ensures in
    let p = err_from_is_err_and c.from_residual-in_err-_out.result c.from_residual-in_err-_out.ensures.1 in
    rw (p.1, p.2) (gen_unset c.args.number c.from_vec.result c.as_slice.result.now c.in_ok-job.job c.in_ok-stock.stock _ job font c.in_ok-job.ensures.job c.in_ok-stock.ensures.gives c.in_err-_out.ensures.settles)

pub returns-clause-settles : goal.returns-clause-settles
returns-clause-settles g c =
    let job : c.from_vec.result ≡ gen_job c.args.number = c.from_vec.ensures ∙ c.in_ok-gen_job.ensures.job in
    let font : c.as_slice.result.now ≡ tiny10 = c.as_slice.ensures.value ∙ c.in_ok-bytes.ensures in
    gen_set c.args.number c.from_vec.result c.as_slice.result.now c.in_ok-job.job c.in_ok-stock.stock c.in_ok-_out.field-0 (record { out = c.new.result; talk = c.in_ok-_out.field-0.talk; closed = c.in_ok-_out.field-0.closed }) job font c.in_ok-job.ensures.job c.in_ok-stock.ensures.gives c.in_ok-_out.ensures.settles
    c.new.ensures refl refl
