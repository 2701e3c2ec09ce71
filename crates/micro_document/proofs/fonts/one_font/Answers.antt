use Rattle.std.proofs.Common.{◌≡◌, ℕ, List, Err, sym, ◌∙◌, ap, subst}
use Rattle.font_stock.specs.declared.font.Font.{Font}
use Rattle.job_fonts.specs.Reads.{IfFault, IsFontRead, IsFontFault}
use Rattle.micro_document.specs.declared.stop.Stop.{Stop}
use Rattle.micro_document.specs.Document.{font_answer}
use Rattle.micro_document.specs.Steps.{FontStops}
use Rattle.micro_document.specs.Stopping.{stop_of}
use Rattle.micro_document.proofs.Steps.{font_missed, font_stopped, font_goes_on}
use Rattle.micro_document.proofs.fonts.one_font.Goals as goal

pub returns-in-Ok-read_font-clause-goes_on : goal.returns-in-Ok-read_font-clause-goes_on
returns-in-Ok-read_font-clause-goes_on g c =
    let P : List ℕ → Type 0 = λ bytes. IsFontRead c.args.decl.now bytes c.in-Ok-read_font.font in
    font_goes_on c.args.number c.args.decl.now c.as_str.result.now c.in-Ok-read_file.bytes c.in-Ok-read_font.font (g.S.Shelf.state c.args.shelf.now) (g.S.Shelf.state c.read_file.new.shelf)
    (c.as_str.ensures.value ∙ c.in-Ok.ensures) c.in-Ok-read_file.ensures.read
    (record { stays = c.in-Ok-read_file.ensures.stays; called = c.in-Ok-read_file.ensures.called; fits = (g.met.S.Shelf.counts_fit c.read_file.new.shelf).calls })
    (subst P c.as_slice.ensures c.in-Ok-read_font.ensures.font)

pub returns-in-Err-clause-stops : goal.returns-in-Err-clause-stops
returns-in-Err-clause-stops g c =
    font_missed c.args.number c.args.decl.now c.as_str.result.now (g.S.Shelf.state c.args.shelf.now) (g.S.Shelf.state c.read_file.new.shelf) c.in-Err.stop (c.as_str.ensures.value ∙ c.in-Ok.ensures)
    (record { stays = c.in-Err.ensures.stays; called = c.in-Err.ensures.called; fits = (g.met.S.Shelf.counts_fit c.read_file.new.shelf).calls }) c.in-Err.ensures.missed

pub returns-clause-stops : goal.returns-clause-stops
returns-clause-stops g c =
    let P : List ℕ → Type 0 = λ bytes. IfFault {X = Font} (Err c.in-Err-read_font.fault) (IsFontFault c.args.decl.now bytes) in
    let F : Stop → Type 0 = λ stop. FontStops c.args.number c.args.decl.now (g.S.Shelf.state c.args.shelf.now) (g.S.Shelf.state c.read_file.new.shelf) stop in
    let is : c.of-in-Err-read_font.result ≡ stop_of (font_answer c.args.number c.in-Err-read_font.fault) = c.of-in-Err-read_font.ensures ∙ ap stop_of c.font_answer.ensures in
    subst F (sym is)
    (font_stopped c.args.number c.args.decl.now c.as_str.result.now c.in-Ok-read_file.bytes (g.S.Shelf.state c.args.shelf.now) (g.S.Shelf.state c.read_file.new.shelf) c.in-Err-read_font.fault
    (c.as_str.ensures.value ∙ c.in-Ok.ensures) c.in-Ok-read_file.ensures.read
    (record { stays = c.in-Ok-read_file.ensures.stays; called = c.in-Ok-read_file.ensures.called; fits = (g.met.S.Shelf.counts_fit c.read_file.new.shelf).calls })
    (subst P c.as_slice.ensures c.in-Err-read_font.ensures.fault))
