-- Every way is made of lines.
use Rattle.std.proofs.Common.{◌≡◌, ℕ, zero, suc, ◌+◌, ◌≤◌, true, false, Option, Some, None, ℤ, pos, ◌+ℤ◌, refl, sym, ap, ◌∙◌, subst, inl, inr, ⊎_elim, arith}
use Rattle.std.specs.Prelude.{◌⊎◌}
use Rattle.std.proofs.lemmas.Bool.{and_parts}
use Rattle.line_break.specs.declared.node.Way.{Way}
use Rattle.line_break.specs.Members.{Among}
use Rattle.line_break.specs.Pass.{Pass, group_of_line, next_group}
use Rattle.line_break.specs.Taken.{line_count}
use Rattle.line_break.specs.Ways.{start, extended, open_ways, records, lines_to, ways, open_to, is_rescued}
use Rattle.line_break.specs.Laws.{IsMadeOfLines}
use Rattle.line_break.proofs.MemberLemmas.{Among-append_cases}
use Rattle.line_break.proofs.OrderLemmas.{int_le-true}
use Rattle.line_break.proofs.OpenWays.{lines_are, open_source, ways_place}

group_further : (ended : Option ℕ) (group lines : ℕ) → group ≡ group_of_line ended (lines + 1) → next_group ended group ≡ group_of_line ended (suc lines + 1)
group_further None group lines e = omega arith
group_further (Some last) group lines e = omega arith

module _ (q : Pass) where
  made_further : (place : ℕ) (v : Way) (d : ℤ) → v.last.place ≤ place → IsMadeOfLines q v
      → ((is_rescued q (suc place) ≡ true) × (d ≡ pos 0)) ⊎ ((is_rescued q (suc place) ≡ false) × (records q (suc place) v ≡ true) × (d ≡ q.demerits v.last (suc place)))
      → IsMadeOfLines q (extended q (suc place) d v)
  unfolding extended records
  made_further place v d low made (inl r) = record {
    group = group_further q.open_ended v.last.group (line_count v) made.group;
    lines = (record { forward = omega arith; group = refl; class = refl; good = inl r.0 }, made.lines);
    total = rw r.0 (ap (λ x. v.total +ℤ x) r.1 ∙ ap (λ x. x +ℤ pos 0) made.total);
  }
  made_further place v d low made (inr r) = record {
    group = group_further q.open_ended v.last.group (line_count v) made.group;
    lines = (record { forward = omega arith; group = refl; class = refl; good = inr (int_le-true (pos (q.badness v.last.place v.last.group (suc place))) q.threshold (and_parts _ _ r.1).0) }, made.lines);
    total = rw r.0 (ap (λ x. v.total +ℤ x) r.2 ∙ ap (λ x. x +ℤ q.demerits v.last (suc place)) made.total);
  }

  start_made : IsMadeOfLines q (start q)
  unfolding start
  start_made = record { group = refl; lines = refl; total = refl }

  pub made_of_lines : (place : ℕ) (w : Way) → Among (ways q place) w → IsMadeOfLines q w
  unfolding ways is_rescued open_to
  made_of_lines zero w (inl e) = subst (IsMadeOfLines q) (sym e) start_made
  made_of_lines zero w (inr m) = absurd m
  made_of_lines (suc place) w m = ⊎_elim
      (λ (old : Among (ways q place) w). made_of_lines place w old)
      (λ (new : Among (lines_to q (suc place) (open_ways q (suc place) (ways q place))) w).
      let open_before = open_ways q (suc place) (ways q place) in
      let f = lines_are q (suc place) open_before w new in
      let s = open_source q (suc place) (ways q place) f.before f.source in
      subst (IsMadeOfLines q) (sym f.made) (made_further place f.before f.added (ways_place q place f.before s) (made_of_lines place f.before s) f.cause))
      (Among-append_cases (ways q place) (lines_to q (suc place) (open_ways q (suc place) (ways q place))) w m)
