-- The spelling of commands one after another.
use Rattle.std.proofs.Common.{◌≡◌, ℕ, ◌+◌, ◌<◌, refl, ap, sym, ◌∙◌, List, [], ◌∷◌, ◌++◌, append_assoc, length, drop, get_or}
use Rattle.std.proofs.lemmas.List.{append-nil, drop_more}
use Rattle.instance_core.specs.declared.cell.Cell.{Cell}
use Rattle.dvi_write.specs.declared.row.FontRow.{FontRow}
use Rattle.dvi_write.specs.Commands.{Command, spell, spell_all}
use Rattle.dvi_write.specs.Document.{define, definitions_from}

pub spell_all-append : (xs ys : List Command) → spell_all (xs ++ ys) ≡ spell_all xs ++ spell_all ys
unfolding spell_all
spell_all-append [] ys = refl
spell_all-append (x ∷ xs) ys = ap (λ rest. spell x ++ rest) (spell_all-append xs ys) ∙ sym (append_assoc (spell x) (spell_all xs) (spell_all ys))

pub spell_all-cons : (x : Command) (xs : List Command) → spell_all (x ∷ xs) ≡ spell x ++ spell_all xs
unfolding spell_all
spell_all-cons x xs = refl

pub spell_all-one : (x : Command) → spell_all (x ∷ []) ≡ spell x
unfolding spell_all
spell_all-one x = append-nil (spell x)

pub definitions_more : (rows : List FontRow) (cells : List Cell) (n : ℕ) (c d : Cell) → n < length cells → c ≡ get_or cells n d
    → spell_all (definitions_from rows n (drop n cells)) ≡ spell_all (definitions_from rows (n + 1) (drop (n + 1) cells)) ++ spell (define rows n c)
definitions_more rows cells n c d inside is =
    ap (λ cs. spell_all (definitions_from rows n cs)) (drop_more cells n d inside ∙ ap (λ x. x ∷ drop (n + 1) cells) (sym is))
    ∙ spell_all-append (definitions_from rows (n + 1) (drop (n + 1) cells)) (define rows n c ∷ [])
    ∙ ap (λ ys. spell_all (definitions_from rows (n + 1) (drop (n + 1) cells)) ++ ys) (spell_all-one (define rows n c))
