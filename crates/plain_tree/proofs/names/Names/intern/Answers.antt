use Rattle.std.proofs.Common.{◌<◌, ◌≡◌, ◌≢◌, ◌∙◌, sym, ap, subst, [], ◌∷◌, ◌++◌, length, arith}
use Rattle.std.specs.Prelude.{None, Some, slice_get}
use Rattle.plain_tree.specs.Tree.{kind_code}
use Rattle.plain_tree.specs.NamePlaces.{place_of}
use Rattle.plain_tree.specs.NameTable.{pairs_of, map_at}
use Rattle.plain_tree.proofs.NameFinding.{no_place}
use Rattle.plain_tree.proofs.NameAdding.{agrees_added, pushed_pairs, grown_maps, length-pairs_of, last_item}
use Rattle.plain_tree.proofs.names.Names.intern.Goals as goal
use Rattle.plain_tree.proofs.names.Names.intern.Goals.{After-number, In_ok-push}

absent : (c : After-number) → place_of c.args.name.now (map_at c.self.inside.places c.args.kind) ≡ None
absent c = no_place _ _ c.self.invariant c.args.kind c.args.name.now
    (λ i. subst (λ z. slice_get z i ≢ Some (c.args.kind, c.args.name.now)) (sym c.self.view_is) (c.in_default.ensures.none i))

pub add_at-requires-clause-absent : goal.add_at-requires-clause-absent
add_at-requires-clause-absent c =
    let d = (goal.at.add_at-requires-clause-absent c).After-number in
    rw (c.in_ok-key.ensures.items_if_clones_equal (λ x y e. e), c.number.ensures.value) (absent d)

pairs_are : (c : In_ok-push) → pairs_of c.push.new.self.items ≡ pairs_of c.self.inside.pairs.items ++ (c.args.kind, c.args.name.now) ∷ []
pairs_are c =
    pushed_pairs c.push.new.self.items c.reserve.new.self.items c.self.inside.pairs.items c.args.kind c.in_ok-name.name c.args.name.now
    c.in_ok-push.ensures.items c.in_ok-reserve.ensures.items c.in_ok-name.ensures

place_is : (c : In_ok-push) → c.len-place.result ≡ length (pairs_of c.self.inside.pairs.items)
place_is c =
    c.len-place.ensures ∙ c.reserve.new.self.ok.0 ∙ ap length c.in_ok-reserve.ensures.items ∙ sym (length-pairs_of c.self.inside.pairs.items)

pub invariant_of-self-2 : goal.invariant_of-self-2
invariant_of-self-2 c =
    let d = (goal.at.invariant_of-self-2 c).After-number in
    let room : kind_code c.args.kind < length c.self.inside.places = rw (← c.number.ensures.value) (omega (arith, c.number.ensures.small)) in
    let maps = grown_maps c.add_at.new.maps c.self.inside.places c.number.result (kind_code c.args.kind) c.len-place.result
    (length (pairs_of c.self.inside.pairs.items)) c.in_ok-key.key.items c.args.name.now c.in_ok-add_at.ensures.ok c.number.ensures.value
    (c.in_ok-key.ensures.items_if_clones_equal (λ x y e. e)) (place_is c) in
    rw (pairs_are c, maps) (agrees_added (pairs_of c.self.inside.pairs.items) c.self.inside.places c.args.kind c.args.name.now c.self.invariant room (absent d))

pub returns-clause-place : goal.returns-clause-place
returns-clause-place c = subst (λ z. slice_get z c.len-place.result ≡ Some (c.args.kind, c.args.name.now)) (sym (pairs_are c))
    (rw (place_is c) (last_item (pairs_of c.self.inside.pairs.items) (c.args.kind, c.args.name.now)))
