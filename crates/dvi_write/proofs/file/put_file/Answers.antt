use Rattle.std.proofs.Common.{◌≡◌, ◌+◌, ◌++◌, ap, ◌∙◌, arith, length, None}
use Rattle.dvi_write.specs.Commands.{spell_all}
use Rattle.dvi_write.specs.Document.{start, definitions_from}
use Rattle.dvi_write.specs.Output.{grown}
use Rattle.dvi_write.specs.Writing.{file_bytes, unfilled_bytes, paged_bytes, pages_bytes, last_page, post_bytes, end_bytes}
use Rattle.dvi_write.proofs.Grown.{then_put, and_put}
use Rattle.dvi_write.proofs.WritingSteps.{length_grown}
use Rattle.dvi_write.proofs.file.put_file.Goals as goal

pub returns : goal.returns
unfolding file_bytes unfilled_bytes paged_bytes
returns c =
    let first : c.put_preamble.new.out.length ≡ length (spell_all start) =
    length_grown c.args.out.now c.put_preamble.new.out (spell_all start) c.in_ok-put_preamble.ensures ∙ ap (λ n. n + length (spell_all start)) c.requires.empty ∙ omega arith in
    let two : c.put_pages.new.out ≡ grown c.args.out.now (paged_bytes c.args.rows.now c.args.numbering.now c.args.pages.now) =
    and_put c.args.out.now c.put_preamble.new.out c.put_pages.new.out (spell_all start) _ c.in_ok-put_preamble.ensures
    (c.in_ok-last.ensures.bytes ∙ ap (λ n. grown c.put_preamble.new.out (pages_bytes c.args.rows.now c.args.numbering.now 0 n 1 None c.args.pages.now)) first) in
    let post : c.length-post.result ≡ length (paged_bytes c.args.rows.now c.args.numbering.now c.args.pages.now) =
    c.length-post.ensures ∙ length_grown c.args.out.now c.put_pages.new.out _ two ∙ ap (λ n. n + length (paged_bytes c.args.rows.now c.args.numbering.now c.args.pages.now)) c.requires.empty ∙ omega arith in
    let last = c.in_ok-last.ensures.last ∙ ap (λ n. last_page c.args.rows.now c.args.numbering.now 0 n 1 None c.args.pages.now) first in
    let three = and_put c.args.out.now c.put_pages.new.out c.put_post.new.out _ _ two (c.in_ok-put_post.ensures ∙ ap (λ l. grown c.put_pages.new.out (post_bytes l c.args.pages.now)) last) in
    let four : c.put_definitions.new.out ≡ grown c.args.out.now (unfilled_bytes c.args.rows.now c.args.numbering.now c.args.pages.now) =
    and_put c.args.out.now c.put_post.new.out c.put_definitions.new.out _ (spell_all (definitions_from c.args.rows.now 0 c.args.numbering.now)) three
    (c.in_ok-put_definitions.ensures ∙ ap (λ cells. grown c.put_post.new.out (spell_all (definitions_from c.args.rows.now 0 cells))) c.cells.ensures.cells) in
    let size : c.put_definitions.new.out.length ≡ length (unfilled_bytes c.args.rows.now c.args.numbering.now c.args.pages.now) =
    length_grown c.args.out.now c.put_definitions.new.out _ four ∙ ap (λ n. n + length (unfilled_bytes c.args.rows.now c.args.numbering.now c.args.pages.now)) c.requires.empty ∙ omega arith in
    then_put c.put_end.result c.args.out.now c.put_definitions.new.out c.put_end.new.out (unfilled_bytes c.args.rows.now c.args.numbering.now c.args.pages.now) (end_bytes c.length-post.result c.put_definitions.new.out.length) _ four c.put_end.ensures
    (λ i. unfilled_bytes c.args.rows.now c.args.numbering.now c.args.pages.now ++ end_bytes (post i) (size i))
