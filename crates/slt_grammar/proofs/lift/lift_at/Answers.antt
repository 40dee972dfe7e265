use Rattle.std.proofs.Common.{◌≡◌, ◌∙◌, ◌+◌, ◌↔◌, ℕ, suc, ◌∷◌, [], length, get_or, drop, List, Option, Some, IsSome, IsTrue, slice_get, refl, sym, ap, subst, arith}
use Rattle.rule_arena.specs.Preorder.{terms, subterm}
use Rattle.rule_arena.specs.Terms.{Node, At, Terms, IsSound, kids_of}
use Rattle.rule_arena.specs.declared.key.Key.{Key}
use Rattle.slt_grammar.specs.Holding.{Changed}
use Rattle.slt_grammar.specs.KeyedEdits.{lifted_nodes}
use Rattle.slt_grammar.proofs.Changes.{changed-twice}
use Rattle.slt_grammar.proofs.Folded.{keyed-term, one-place}
use Rattle.slt_grammar.proofs.Lifted.{place, at-left, second-stands, second-inner, mid-changed, lifted-nodes, left-nodes}
use Rattle.rule_arena.proofs.TakingLaws.{child_apart}
use Rattle.slt_grammar.proofs.Parents.{child-there}
use Rattle.slt_grammar.proofs.lift.lift_at.Goals as goal

-- the node at another standing of its key
node-at : (a : Terms) (at : Key) (S : IsSound a) (x y : At a at) (n : Node) → slice_get x.nodes x.place ≡ Some n → slice_get y.nodes y.place ≡ Some n
node-at a at S x y n e =
    let o = one-place a at x y S in
    ap (λ (ns : List Node). slice_get ns y.place) (sym o.1.0) ∙ ap (λ (p : ℕ). slice_get x.nodes p) (sym o.1.1) ∙ e

pub detach-requires : goal.detach-requires
detach-requires c =
    let S = c.limit-before.ensures.sound in
    let T = c.requires.there in
    let a = c.args.arena.now in
    let second = c.root_and_second-is_root.result.1 in
    let C = child_apart T.2.nodes T.2.place T.3 1 second (keyed-term a T.2.root T.2.nodes S T.2.stands) T.6 (c.root_and_second-is_root.ensures.second T.2) in
    let p : ℕ = suc (T.2.place + length C.child.before) in
    let y : At a second = record { root = T.2.root; nodes = T.2.nodes; place = p; stands = T.2.stands; there = child-there T.2.nodes T.2.place T.3 1 second C p refl } in
    (y, omega arith)

pub swap-requires-clause-held : goal.swap-requires-clause-held
swap-requires-clause-held c =
    let S = c.limit-before.ensures.sound in
    let T = c.requires.there in
    let a = c.args.arena.now in
    let b = c.detach.new.self in
    let second = c.root_and_second-is_root.result.1 in
    (mid-changed a b c.args.at second S T.2 T.3 T.6 T.7 (c.root_and_second-is_root.ensures.second T.2) c.detach.ensures.moved c.detach.ensures.freed c.detach.ensures.others c.args.roots.now T.0 T.1 c.requires.held T.4 T.5).held

pub swap-requires-clause-there : goal.swap-requires-clause-there
swap-requires-clause-there c =
    let S = c.limit-before.ensures.sound in
    let T = c.requires.there in
    let a = c.args.arena.now in
    let b = c.detach.new.self in
    let second = c.root_and_second-is_root.result.1 in
    (T.0, T.1, at-left a b c.args.at second S T.2 T.3 T.6 T.7 (c.root_and_second-is_root.ensures.second T.2) c.detach.ensures.moved c.detach.ensures.freed c.detach.ensures.others, T.4, T.5)

pub swap-requires-clause-root : goal.swap-requires-clause-root
swap-requires-clause-root c = λ y.
    let S = c.limit-before.ensures.sound in
    let T = c.requires.there in
    let a = c.args.arena.now in
    let b = c.detach.new.self in
    let second = c.root_and_second-is_root.result.1 in
    let z = at-left a b c.args.at second S T.2 T.3 T.6 T.7 (c.root_and_second-is_root.ensures.second T.2) c.detach.ensures.moved c.detach.ensures.freed c.detach.ensures.others in
    let o = one-place b c.args.at z y c.limit-after.ensures.sound in
    subst (λ (p : ℕ). IsTrue c.root_and_second-is_root.result.0 ↔ (p ≡ 0)) o.1.1 (c.root_and_second-is_root.ensures.root T.2)

pub swap-requires-clause-new : goal.swap-requires-clause-new
swap-requires-clause-new c =
    let S = c.limit-before.ensures.sound in
    let T = c.requires.there in
    let a = c.args.arena.now in
    let b = c.detach.new.self in
    let second = c.root_and_second-is_root.result.1 in
    subst (λ (t : Option (List Node)). IsSome t) (sym (second-stands a b c.args.at second S T.2 T.3 T.6 T.7 (c.root_and_second-is_root.ensures.second T.2) c.detach.ensures.moved c.detach.ensures.freed c.detach.ensures.others)) refl

pub swap-requires-clause-apart : goal.swap-requires-clause-apart
swap-requires-clause-apart c = λ i k e h.
    let S = c.limit-before.ensures.sound in
    let T = c.requires.there in
    let a = c.args.arena.now in
    let b = c.detach.new.self in
    let second = c.root_and_second-is_root.result.1 in
    second-inner a b c.args.at second S T.2 T.3 T.6 T.7 (c.root_and_second-is_root.ensures.second T.2) c.detach.ensures.moved c.detach.ensures.freed c.detach.ensures.others k.number (c.requires.held.stands i k e) h

pub returns-clause-changed : goal.returns-clause-changed
returns-clause-changed c = λ i k x e f.
    let S = c.limit-before.ensures.sound in
    let T = c.requires.there in
    let a = c.args.arena.now in
    let b = c.detach.new.self in
    let second = c.root_and_second-is_root.result.1 in
    let node = node-at a c.args.at S T.2 x T.3 T.6 in
    let sec = c.root_and_second-is_root.ensures.second x in
    let y = at-left a b c.args.at second S x T.3 node T.7 sec c.detach.ensures.moved c.detach.ensures.freed c.detach.ensures.others in
    let s = second-stands a b c.args.at second S x T.3 node T.7 sec c.detach.ensures.moved c.detach.ensures.freed c.detach.ensures.others in
    let C = c.swap.ensures.changed i k y (subterm kids_of x.nodes (place a b c.args.at second S x T.3 node T.7 sec c.detach.ensures.moved c.detach.ensures.freed c.detach.ensures.others)) e f s in
    changed-twice a b c.swap.new.arena c.args.roots.now c.args.roots.now c.swap.new.roots i y.nodes (lifted_nodes x.nodes x.place)
    (mid-changed a b c.args.at second S x T.3 node T.7 sec c.detach.ensures.moved c.detach.ensures.freed c.detach.ensures.others c.args.roots.now i k c.requires.held e f)
    (subst (λ (ms : List Node). Changed b c.swap.new.arena c.args.roots.now c.swap.new.roots i ms) (lifted-nodes a b c.args.at second S x T.3 node T.7 sec c.detach.ensures.moved c.detach.ensures.freed c.detach.ensures.others) C)

pub returns-clause-out : goal.returns-clause-out
returns-clause-out c = λ x n e.
    let S = c.limit-before.ensures.sound in
    let T = c.requires.there in
    let a = c.args.arena.now in
    let b = c.detach.new.self in
    let second = c.root_and_second-is_root.result.1 in
    let o = one-place a c.args.at T.2 x S in
    let node = node-at a c.args.at S T.2 x T.3 T.6 in
    let same : n ≡ T.3 = one n T.3 (slice_get x.nodes x.place) e node in
    let sec = c.root_and_second-is_root.ensures.second x in
    let y = at-left a b c.args.at second S x T.3 node T.7 sec c.detach.ensures.moved c.detach.ensures.freed c.detach.ensures.others in
    c.swap.ensures.out T.0 T.1 y T.4 (sym o.0 ∙ T.5)
    ∙ ap (λ (ns : List Node). Some ns) (left-nodes a b c.args.at second S x T.3 node T.7 sec c.detach.ensures.moved c.detach.ensures.freed c.detach.ensures.others)
    ∙ ap (λ (m : Node). Some (record m { kids = 1 } ∷ get_or (terms kids_of 2 (drop (x.place + 1) x.nodes)) 0 [])) (sym same)
  where
    one : (n m : Node) (o : Option Node) → o ≡ Some n → o ≡ Some m → n ≡ m
    one n m o e f = cc
