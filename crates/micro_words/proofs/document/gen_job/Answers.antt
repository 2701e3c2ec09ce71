-- Each turn puts the first of the paragraphs that are left.
use Rattle.std.proofs.Common.{◌≡◌, ◌∙◌, ◌++◌, ◌<◌, ◌≤◌, ◌-◌, ◌^◌, length, subst, sym, ap₂, arith, List, ℕ}
use Rattle.micro_words.specs.Documents.{settings, job}
use Rattle.micro_words.specs.Prose.{paragraphs}
use Rattle.micro_words.proofs.Lengths.{job_length}
use Rattle.micro_words.proofs.Prose.{paragraphs_put, paragraphs_end}
use Rattle.micro_words.proofs.document.gen_job.Goals as goal

pub loop-paragraph-init : goal.loop-paragraph-init
unfolding settings
loop-paragraph-init c =
    let text : c.extend_from_slice.new.self.items ≡ settings
    = c.in_ok-extend_from_slice.ensures.items
    ∙ ap₂ (λ (front back : List ℕ). front ++ back) c.in_ok-text.ensures.items c.as_bytes.ensures.value in
    let all : c.args.n - 0 ≡ c.args.n = omega arith in
    ap₂ (λ (front : List ℕ) (left : ℕ). front ++ paragraphs left c.args.n) text all

pub loop-paragraph-preserved : goal.loop-paragraph-preserved
loop-paragraph-preserved c =
    let k = c.loop-paragraph._paragraph in
    let n = c.args.n in
    let s = c.loop-paragraph.state in
    let lt : k < n = omega arith in
    paragraphs_put n k s _ c.loop-paragraph.text.items _ lt c.in_ok-state.ensures.1 c.in_ok-state.ensures.0
    ∙ c.loop-paragraph.invariant

pub returns : goal.returns
unfolding job
returns c =
    let le : c.args.n ≤ c.loop-paragraph._paragraph = omega arith in
    let all : c.loop-paragraph.text.items ≡ job c.args.n
    = paragraphs_end c.args.n c.loop-paragraph._paragraph c.loop-paragraph.state c.loop-paragraph.text.items _ le
    c.loop-paragraph.invariant in
    record {
      job = all;
      few = subst (λ (bytes : List ℕ). length bytes < 2 ^ 32) (sym all) (job_length c.args.n c.requires.few);
    }
