use Rattle.std.proofs.Common.{◌≤◌, ◌∙◌, ap, arith, length, subst, sym, unsigned_abs}
use Rattle.break_rule.specs.Made.{IsPlace}
use Rattle.break_pass.specs.declared.place.LegalPlace.{LegalPlace}
use Rattle.break_pass.proofs.PlaceLaws.{count_of_places, legal_at, penalty_small, place_read}
use Rattle.break_pass.proofs.pass.LinePass.place.Goals as goal

pub index-requires : goal.index-requires
index-requires c =
    let pass = c.args.self.now in
    let long = ap length pass.kept ∙ count_of_places pass.rule.now in
    omega (arith, long, pass.places.ok.0, c.requires.from_1, c.requires.within)

pub returns-clause-exact : goal.returns-clause-exact
returns-clause-exact c =
    place_read c.args.self.now.rule.now c.args.self.now.places.items c.args.number c.index.result.now c.args.self.now.kept
    c.requires.from_1 c.requires.within c.index.ensures

pub returns-clause-legal : goal.returns-clause-legal
returns-clause-legal c =
    let pass = c.args.self.now in
    let is = place_read pass.rule.now pass.places.items c.args.number c.index.result.now pass.kept c.requires.from_1 c.requires.within c.index.ensures in
    subst (λ (p : LegalPlace). IsPlace pass.rule.now p.at) (sym is)
    (legal_at pass.rule.now c.args.number (omega (arith, c.requires.from_1, c.requires.within)))

pub returns-clause-small : goal.returns-clause-small
returns-clause-small c =
    let pass = c.args.self.now in
    let is = place_read pass.rule.now pass.places.items c.args.number c.index.result.now pass.kept c.requires.from_1 c.requires.within c.index.ensures in
    subst (λ (p : LegalPlace). unsigned_abs p.penalty ≤ 10000) (sym is) (penalty_small pass.rule.now c.args.number)
