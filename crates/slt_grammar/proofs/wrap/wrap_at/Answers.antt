use Rattle.std.proofs.Common.{◌≡◌, ◌↔◌, ◌∷◌, [], ℕ, zero, suc, IsTrue, refl, subst, List, Option, Some, IsSome, slice_get, sym, ap}
use Rattle.rule_arena.specs.Preorder.{subterm, with_subterm}
use Rattle.rule_arena.specs.Terms.{Node, At, term_at, or_nothing, kids_of}
use Rattle.rule_arena.specs.declared.key.Key.{Key}
use Rattle.slt_grammar.specs.Copying.{Made, copied}
use Rattle.slt_grammar.specs.Holding.{Changed, terms_of}
use Rattle.slt_grammar.proofs.Wrappings.{leaf-node, leaf-held, leaf-terms, leaf-apart, still-at, leaf-at, mid-root, mid-held, made-stands, made-apart, put-around}
use Rattle.slt_grammar.proofs.wrap.wrap_at.Goals as goal

pub swap-requires-clause-held : goal.swap-requires-clause-held
swap-requires-clause-held c =
    leaf-held c.args.arena.now c.add-leaf.new.self c.args.roots.now c.args.at c.add-leaf.result c.requires.held c.add-leaf.ensures.vacant c.add-leaf.ensures.others

pub swap-requires-clause-there : goal.swap-requires-clause-there
swap-requires-clause-there c =
    let x = c.requires.there.2 in
    let y : At c.add-leaf.new.self c.args.at = still-at c.args.arena.now c.add-leaf.new.self c.args.roots.now c.args.at c.add-leaf.result c.requires.held c.add-leaf.ensures.vacant c.add-leaf.ensures.others x in
    (c.requires.there.0, c.requires.there.1, y, c.requires.there.3, c.requires.there.4)

pub swap-requires-clause-root : goal.swap-requires-clause-root
swap-requires-clause-root c = λ z.
    let x = c.requires.there.2 in
    let y : At c.add-leaf.new.self c.args.at = still-at c.args.arena.now c.add-leaf.new.self c.args.roots.now c.args.at c.add-leaf.result c.requires.held c.add-leaf.ensures.vacant c.add-leaf.ensures.others x in
    subst (λ (p : ℕ). IsTrue c.is_root-is_root.result ↔ (p ≡ 0)) (c.limit-between.ensures.sound.once c.args.at y z).1 (c.is_root-is_root.ensures x)

pub swap-requires-clause-new : goal.swap-requires-clause-new
swap-requires-clause-new c =
    subst (λ (t : Option (List Node)). IsSome t) (sym c.add-leaf.ensures.term) refl

pub swap-requires-clause-apart : goal.swap-requires-clause-apart
swap-requires-clause-apart c =
    leaf-apart c.args.arena.now c.add-leaf.new.self c.args.roots.now c.args.at c.add-leaf.result c.requires.held c.add-leaf.ensures.vacant c.add-leaf.ensures.others

pub build_over-copied-requires-clause-roots : goal.build_over-copied-requires-clause-roots
build_over-copied-requires-clause-roots c =
    let x = c.requires.there.2 in
    let y : At c.add-leaf.new.self c.args.at = still-at c.args.arena.now c.add-leaf.new.self c.args.roots.now c.args.at c.add-leaf.result c.requires.held c.add-leaf.ensures.vacant c.add-leaf.ensures.others x in
    let o = c.swap.ensures.out c.requires.there.0 c.requires.there.1 y c.requires.there.3 c.requires.there.4 in
    λ i k e. one i k e (subst (λ (t : Option (List Node)). IsSome t) (sym o) refl)
  where
    one : (i : ℕ) (k : Key) → slice_get (c.args.at ∷ []) i ≡ Some k → IsSome (term_at c.swap.new.arena c.args.at.number) → IsSome (term_at c.swap.new.arena k.number)
    one zero k e s = let z : c.args.at ≡ k = cc in subst (λ (q : Key). IsSome (term_at c.swap.new.arena q.number)) z s
    one (suc i) k e s = absurd (let w : slice_get [] i ≡ Some k = e in cc)

pub replace-requires-clause-held : goal.replace-requires-clause-held
replace-requires-clause-held c =
    let x = c.requires.there.2 in
    let y : At c.add-leaf.new.self c.args.at = still-at c.args.arena.now c.add-leaf.new.self c.args.roots.now c.args.at c.add-leaf.result c.requires.held c.add-leaf.ensures.vacant c.add-leaf.ensures.others x in
    let C = c.swap.ensures.changed c.requires.there.0 c.requires.there.1 y (leaf-node c.add-leaf.result ∷ []) c.requires.there.3 c.requires.there.4 c.add-leaf.ensures.term in
    let B = c.build_over-copied.ensures.built in
    let ms : List Node = copied c.args.shapes.now (terms_of c.swap.new.arena (c.args.at ∷ [])) B.keys in
    let M : Made c.swap.new.arena c.build_over-copied.new.arena (c.args.at ∷ []) c.build_over-copied.result.root ms = record { term = B.term; origin = B.origin; others = B.others } in
    mid-held c.add-leaf.new.self c.swap.new.arena c.build_over-copied.new.arena c.args.roots.now c.swap.new.roots c.args.at c.add-leaf.result c.build_over-copied.result.root (leaf-held c.args.arena.now c.add-leaf.new.self c.args.roots.now c.args.at c.add-leaf.result c.requires.held c.add-leaf.ensures.vacant c.add-leaf.ensures.others) c.requires.there.0 c.requires.there.1 y c.requires.there.3 C c.swap.ensures.apart ms M

pub replace-requires-clause-there : goal.replace-requires-clause-there
replace-requires-clause-there c =
    let x = c.requires.there.2 in
    let y : At c.add-leaf.new.self c.args.at = still-at c.args.arena.now c.add-leaf.new.self c.args.roots.now c.args.at c.add-leaf.result c.requires.held c.add-leaf.ensures.vacant c.add-leaf.ensures.others x in
    let C = c.swap.ensures.changed c.requires.there.0 c.requires.there.1 y (leaf-node c.add-leaf.result ∷ []) c.requires.there.3 c.requires.there.4 c.add-leaf.ensures.term in
    let B = c.build_over-copied.ensures.built in
    let ms : List Node = copied c.args.shapes.now (terms_of c.swap.new.arena (c.args.at ∷ [])) B.keys in
    let M : Made c.swap.new.arena c.build_over-copied.new.arena (c.args.at ∷ []) c.build_over-copied.result.root ms = record { term = B.term; origin = B.origin; others = B.others } in
    let r = mid-root c.add-leaf.new.self c.swap.new.arena c.build_over-copied.new.arena c.args.roots.now c.swap.new.roots c.args.at c.add-leaf.result c.build_over-copied.result.root (leaf-held c.args.arena.now c.add-leaf.new.self c.args.roots.now c.args.at c.add-leaf.result c.requires.held c.add-leaf.ensures.vacant c.add-leaf.ensures.others) c.requires.there.0 c.requires.there.1 y c.requires.there.3 C c.swap.ensures.apart ms M in
    (c.requires.there.0, r.0, leaf-at c.add-leaf.new.self c.swap.new.arena c.build_over-copied.new.arena c.args.roots.now c.swap.new.roots c.args.at c.add-leaf.result c.build_over-copied.result.root (leaf-held c.args.arena.now c.add-leaf.new.self c.args.roots.now c.args.at c.add-leaf.result c.requires.held c.add-leaf.ensures.vacant c.add-leaf.ensures.others) c.requires.there.0 c.requires.there.1 y c.requires.there.3 C c.swap.ensures.apart ms M, r.1, refl)

pub replace-requires-clause-root : goal.replace-requires-clause-root
replace-requires-clause-root c = λ z.
    let x = c.requires.there.2 in
    let y : At c.add-leaf.new.self c.args.at = still-at c.args.arena.now c.add-leaf.new.self c.args.roots.now c.args.at c.add-leaf.result c.requires.held c.add-leaf.ensures.vacant c.add-leaf.ensures.others x in
    let C = c.swap.ensures.changed c.requires.there.0 c.requires.there.1 y (leaf-node c.add-leaf.result ∷ []) c.requires.there.3 c.requires.there.4 c.add-leaf.ensures.term in
    let B = c.build_over-copied.ensures.built in
    let ms : List Node = copied c.args.shapes.now (terms_of c.swap.new.arena (c.args.at ∷ [])) B.keys in
    let M : Made c.swap.new.arena c.build_over-copied.new.arena (c.args.at ∷ []) c.build_over-copied.result.root ms = record { term = B.term; origin = B.origin; others = B.others } in
    subst (λ (p : ℕ). IsTrue c.is_root-is_root.result ↔ (p ≡ 0)) (c.limit-after.ensures.sound.once c.add-leaf.result (leaf-at c.add-leaf.new.self c.swap.new.arena c.build_over-copied.new.arena c.args.roots.now c.swap.new.roots c.args.at c.add-leaf.result c.build_over-copied.result.root (leaf-held c.args.arena.now c.add-leaf.new.self c.args.roots.now c.args.at c.add-leaf.result c.requires.held c.add-leaf.ensures.vacant c.add-leaf.ensures.others) c.requires.there.0 c.requires.there.1 y c.requires.there.3 C c.swap.ensures.apart ms M) z).1 (c.is_root-is_root.ensures x)

pub replace-requires-clause-new : goal.replace-requires-clause-new
replace-requires-clause-new c =
    let x = c.requires.there.2 in
    let y : At c.add-leaf.new.self c.args.at = still-at c.args.arena.now c.add-leaf.new.self c.args.roots.now c.args.at c.add-leaf.result c.requires.held c.add-leaf.ensures.vacant c.add-leaf.ensures.others x in
    let C = c.swap.ensures.changed c.requires.there.0 c.requires.there.1 y (leaf-node c.add-leaf.result ∷ []) c.requires.there.3 c.requires.there.4 c.add-leaf.ensures.term in
    let B = c.build_over-copied.ensures.built in
    let ms : List Node = copied c.args.shapes.now (terms_of c.swap.new.arena (c.args.at ∷ [])) B.keys in
    let M : Made c.swap.new.arena c.build_over-copied.new.arena (c.args.at ∷ []) c.build_over-copied.result.root ms = record { term = B.term; origin = B.origin; others = B.others } in
    made-stands c.add-leaf.new.self c.swap.new.arena c.build_over-copied.new.arena c.args.roots.now c.swap.new.roots c.args.at c.add-leaf.result c.build_over-copied.result.root (leaf-held c.args.arena.now c.add-leaf.new.self c.args.roots.now c.args.at c.add-leaf.result c.requires.held c.add-leaf.ensures.vacant c.add-leaf.ensures.others) c.requires.there.0 c.requires.there.1 y c.requires.there.3 C c.swap.ensures.apart ms M

pub replace-requires-clause-apart : goal.replace-requires-clause-apart
replace-requires-clause-apart c =
    let x = c.requires.there.2 in
    let y : At c.add-leaf.new.self c.args.at = still-at c.args.arena.now c.add-leaf.new.self c.args.roots.now c.args.at c.add-leaf.result c.requires.held c.add-leaf.ensures.vacant c.add-leaf.ensures.others x in
    let C = c.swap.ensures.changed c.requires.there.0 c.requires.there.1 y (leaf-node c.add-leaf.result ∷ []) c.requires.there.3 c.requires.there.4 c.add-leaf.ensures.term in
    let B = c.build_over-copied.ensures.built in
    let ms : List Node = copied c.args.shapes.now (terms_of c.swap.new.arena (c.args.at ∷ [])) B.keys in
    let M : Made c.swap.new.arena c.build_over-copied.new.arena (c.args.at ∷ []) c.build_over-copied.result.root ms = record { term = B.term; origin = B.origin; others = B.others } in
    made-apart c.add-leaf.new.self c.swap.new.arena c.build_over-copied.new.arena c.args.roots.now c.swap.new.roots c.args.at c.add-leaf.result c.build_over-copied.result.root (leaf-held c.args.arena.now c.add-leaf.new.self c.args.roots.now c.args.at c.add-leaf.result c.requires.held c.add-leaf.ensures.vacant c.add-leaf.ensures.others) c.requires.there.0 c.requires.there.1 y c.requires.there.3 C c.swap.ensures.apart ms M

pub returns-clause-wrapped : goal.returns-clause-wrapped
returns-clause-wrapped c = λ i k x e f.
    let y : At c.add-leaf.new.self c.args.at = still-at c.args.arena.now c.add-leaf.new.self c.args.roots.now c.args.at c.add-leaf.result c.requires.held c.add-leaf.ensures.vacant c.add-leaf.ensures.others x in
    let C = c.swap.ensures.changed i k y (leaf-node c.add-leaf.result ∷ []) e f c.add-leaf.ensures.term in
    let B = c.build_over-copied.ensures.built in
    let ms : List Node = copied c.args.shapes.now (terms_of c.swap.new.arena (c.args.at ∷ [])) B.keys in
    let M : Made c.swap.new.arena c.build_over-copied.new.arena (c.args.at ∷ []) c.build_over-copied.result.root ms = record { term = B.term; origin = B.origin; others = B.others } in
    let r = mid-root c.add-leaf.new.self c.swap.new.arena c.build_over-copied.new.arena c.args.roots.now c.swap.new.roots c.args.at c.add-leaf.result c.build_over-copied.result.root (leaf-held c.args.arena.now c.add-leaf.new.self c.args.roots.now c.args.at c.add-leaf.result c.requires.held c.add-leaf.ensures.vacant c.add-leaf.ensures.others) i k y e C c.swap.ensures.apart ms M in
    let D = c.replace.ensures.changed i r.0 (leaf-at c.add-leaf.new.self c.swap.new.arena c.build_over-copied.new.arena c.args.roots.now c.swap.new.roots c.args.at c.add-leaf.result c.build_over-copied.result.root (leaf-held c.args.arena.now c.add-leaf.new.self c.args.roots.now c.args.at c.add-leaf.result c.requires.held c.add-leaf.ensures.vacant c.add-leaf.ensures.others) i k y e C c.swap.ensures.apart ms M) ms r.1 refl B.term in
    let o : terms_of c.swap.new.arena (c.args.at ∷ []) ≡ subterm kids_of x.nodes x.place ∷ [] = ap (λ (t : Option (List Node)). or_nothing t ∷ []) (c.swap.ensures.out i k y e f) in
    record {
      keys = B.keys;
      many = B.many;
      changed = subst (λ (gs : List (List Node)). Changed c.args.arena.now c.replace.new.arena c.args.roots.now c.replace.new.roots i (with_subterm kids_of x.nodes x.place (copied c.args.shapes.now gs B.keys))) o
          (put-around c.add-leaf.new.self c.swap.new.arena c.build_over-copied.new.arena c.args.roots.now c.swap.new.roots c.args.at c.add-leaf.result c.build_over-copied.result.root (leaf-held c.args.arena.now c.add-leaf.new.self c.args.roots.now c.args.at c.add-leaf.result c.requires.held c.add-leaf.ensures.vacant c.add-leaf.ensures.others) i k y e C c.swap.ensures.apart ms M c.args.arena.now c.replace.new.arena c.replace.new.roots (leaf-terms c.args.arena.now c.add-leaf.new.self c.args.roots.now c.args.at c.add-leaf.result c.requires.held c.add-leaf.ensures.vacant c.add-leaf.ensures.others) D);
    }
