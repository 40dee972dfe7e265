use Rattle.std.proofs.Common.{◌+◌, ◌<◌, ◌^◌, List, [], ◌∷◌, ap, sym, subst, arith}
use Rattle.std.proofs.lemmas.Result.{err_from_is_err_and}
use Rattle.plain_tree.specs.declared.edit.Edit.TheVariants.{Attr}
use Rattle.plain_tree.specs.declared.kind.Kind.TheVariants.{Attribute}
use Rattle.plain_tree.specs.Edits.{edited}
use Rattle.plain_tree.specs.NodePairs.{Pair}
use Rattle.plain_tree.specs.Tree.{node_count}
use Rattle.slt_grammar.specs.Bodies.{real_nodes}
use Rattle.fcns_encoding.specs.Interning.{Interns}
use Rattle.tree_updates.specs.declared.store.EditError.TheVariants.{TooMany}
use Rattle.tree_updates.proofs.AttributePlaces.{attribute-grows, one-more}
use Rattle.tree_updates.proofs.BroughtNames.{all-named, edited-named, refused-later, refused-named}
use Rattle.tree_updates.proofs.StoreLemmas.{refused-there, total-is}
use Rattle.tree_updates.specs.CodePlaces.{IsPlaceSpot}
use Rattle.tree_updates.specs.declared.growing.Site.{Site}
use Rattle.start_fronts.specs.Moved.{MovesBefore}
use Rattle.segment_counts.specs.Weights.{all_weight}
use Rattle.tree_updates.specs.Fronts.{first_keys}
use Rattle.tree_updates.proofs.attribute_setting.add_attribute.Goals as goal

pub returns-then-total-clause-applies : goal.returns-then-total-clause-applies
returns-then-total-clause-applies g c = λ t n i edit h.
    let s = c.args.store.now in
    let x = c.args.name.now in
    let w = c.args.value.now in
    let total = total-is s t i c.limit-limit.ensures.keyed.grammar in
    refused-there t (Attr n x w) TooMany s (edit.allowed, omega (arith, c.if-total.true, c.total.ensures.kept, total, one-more t n x w edit s.names c.args.site h)) i

pub returns-in_err-growth-clause-applies : goal.returns-in_err-growth-clause-applies
returns-in_err-growth-clause-applies g c =
    let s = c.args.store.now in
    let k = c.in_err-growth.ensures.refused in
    let p = err_from_is_err_and c.from_residual.result c.from_residual.ensures.1 in
    rw (p.1, p.2) (λ t n i edit h. refused-named s t i (Attr n c.args.name.now c.args.value.now) edit c.limit-limit.ensures.keyed.grammar k.0 c.attribute_growth.new.names k.1)

pub grow-requires : goal.grow-requires
grow-requires g c =
    let s = c.args.store.now in
    let x = c.args.name.now in
    let w = c.args.value.now in
    let r = c.requires.store in
    let names = c.attribute_growth.new.names in
    let total = total-is s r.0 r.2 c.limit-limit.ensures.keyed.grammar in
    let few : node_count r.0 + 1 < 2 ^ 63 = omega (arith, c.if-total.false, c.total.ensures.kept, total) in
    record {
      spot = subst (λ (w : Site). IsPlaceSpot s.grammar.rules w.place c.args.spot.now) (sym c.in_ok-growth.ensures.growth.site_is) c.requires.spot;
      store = (
        r.0,
        edited r.0 (Attr r.1 x w),
        all-named s r.0 r.2 (Attr r.1 x w) r.3 c.limit-limit.ensures.keyed.grammar names c.in_ok-growth.ensures.grown,
        attribute-grows r.0 r.1 x w r.3 names c.args.site r.4 c.in_ok-growth.growth c.in_ok-growth.ensures.growth few,
      );
    }

pub returns-in_err-grow-clause-applies : goal.returns-in_err-grow-clause-applies
returns-in_err-grow-clause-applies g c =
    let s = c.args.store.now in
    let x = c.args.name.now in
    let w = c.args.value.now in
    let names = c.attribute_growth.new.names in
    let G = c.limit-limit.ensures.keyed.grammar in
    let new = c.grow.new.store in
    let grown = subst (λ (ns : List Pair). Interns s.names ((Attribute, x) ∷ []) ns) (sym c.grow.ensures.names) c.in_ok-growth.ensures.grown in
    let p = err_from_is_err_and c.from_residual-in_err-grow.result c.from_residual-in_err-grow.ensures.1 in
    rw (p.1, p.2) (λ t n i edit h.
    refused-later s t i (Attr n x w) edit G new grown (c.in_err-grow.ensures.kept t (all-named s t i (Attr n x w) edit G names c.in_ok-growth.ensures.grown)) c.in_err-grow.ensures.rules c.in_err-grow.ensures.texts)

pub returns-clause-applies : goal.returns-clause-applies
returns-clause-applies g c =
    let s = c.args.store.now in
    let x = c.args.name.now in
    let w = c.args.value.now in
    let names = c.attribute_growth.new.names in
    let G = c.limit-limit.ensures.keyed.grammar in
    let new = c.grow.new.store in
    let k = c.in_ok-growth.ensures.growth in
    let grown = subst (λ (ns : List Pair). Interns s.names ((Attribute, x) ∷ []) ns) (sym c.grow.ensures.names) c.in_ok-growth.ensures.grown in
    λ t n i edit h.
    let total = total-is s t i G in
    let few : node_count t + 1 < 2 ^ 63 = omega (arith, c.if-total.false, c.total.ensures.kept, total) in
    edited-named s t i (Attr n x w) edit G new grown
    (c.in_ok-grow.ensures.grown t (edited t (Attr n x w)) (all-named s t i (Attr n x w) edit G names c.in_ok-growth.ensures.grown) (attribute-grows t n x w edit names c.args.site h c.in_ok-growth.growth k few))
    (omega (arith, c.in_ok-grow.ensures.size, ap real_nodes k.body.2)) c.in_ok-grow.ensures.ranks

pub returns-clause-moves : goal.returns-clause-moves
returns-clause-moves g c =
    let s = c.args.store.now in
    subst (λ (w : Site). MovesBefore all_weight (first_keys c.args.spot.now.levels.items) w.place s.grammar.rules c.grow.new.store.grammar.rules) c.in_ok-growth.ensures.growth.site_is c.in_ok-grow.ensures.moves
