use Rattle.std.proofs.Common.{◌≡◌, List, ◌∷◌, ◌++◌, [], ap, sym, subst, ◌∙◌}
use Rattle.instance_core.specs.declared.font.BaseFont.{BaseFont}
use Rattle.instance_core.specs.Bases.{AreBases}
use Rattle.instance_core.specs.Worked.{half_wide}
use Rattle.page_tests.proofs.HalfWide.{half_wide-is}
use Rattle.page_tests.proofs.cells.one_font.Goals as goal

pub make-requires : goal.make-requires
make-requires c =
    let alone : c.push.new.self.items ≡ half_wide 1 ∷ [] =
    c.in_ok-push.ensures.items ∙ ap (λ (fonts : List BaseFont). fonts ++ c.in_ok-half_wide.field-0 ∷ []) c.new-fonts.ensures.items
    ∙ ap (λ (font : BaseFont). font ∷ []) c.in_ok-half_wide.ensures in
    subst AreBases (sym alone) half_wide-is
