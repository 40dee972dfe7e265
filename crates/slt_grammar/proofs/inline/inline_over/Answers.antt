use Rattle.std.proofs.Common.{◌≡◌, ◌↔◌, ◌∙◌, ◌≤◌, ◌+◌, ◌∷◌, ◌++◌, [], ℕ, IsTrue, refl, subst, List, set, Some, length, take, drop, ap, sym, arith}
use Rattle.rule_arena.specs.Preorder.{span, with_subterm}
use Rattle.rule_arena.specs.Terms.{Node, key_in, kids_of}
use Rattle.rule_arena.specs.declared.key.Key.{Key}
use Rattle.rule_arena.proofs.PathLemmas.{key_in-left, key_in-right}
use Rattle.slt_grammar.specs.Copying.{args_at, copied, holes_in}
use Rattle.slt_grammar.specs.Holding.{terms_of}
use Rattle.slt_grammar.proofs.Copies.{hole-le}
use Rattle.slt_grammar.proofs.Exchanges.{call-at, held-on, new-apart, new-stands, remade}
use Rattle.slt_grammar.proofs.Inlinings.{cut-at, told-args, laced-cut}
use Rattle.slt_grammar.proofs.inline.inline_over.Goals as goal

few-holes : (ns : List Node) → holes_in ns ≤ length ns
few-holes [] = omega arith
few-holes (n ∷ ns) = omega (arith, few-holes ns, hole-le n.label)

-- where a copy begins
first-copied : (ns : List Node) (p : ℕ) (callee : List Node) (given : List (List Node)) (keys : List Key) (root : Key) → length (take p ns) ≡ p → key_in (copied callee given keys) 0 ≡ Some root
    → key_in (with_subterm kids_of ns p (copied callee given keys)) p ≡ Some root
first-copied ns p callee given keys root l e =
    let rest : List Node = drop p ns in
    let back : List Node = drop (span kids_of 1 rest) rest in
    let z : length (take p ns) + 0 ≡ p = omega (arith, l) in
    ap (λ (j : ℕ). key_in (take p ns ++ (copied callee given keys ++ back)) j) (sym z)
    ∙ key_in-right (take p ns) (copied callee given keys ++ back) 0 root (key_in-left (copied callee given keys) back 0 root e)

pub loosen-requires-clause-room : goal.loosen-requires-clause-room
loosen-requires-clause-room c =
    let x = c.requires.there.2 in
    let C = cut-at x.nodes x.place c.args.call (c.limit-before.ensures.sound.term x.root x.nodes x.stands) x.there in
    let A = told-args x.nodes x.place c.args.call c.args.kids.now c.args.kids.now C (c.requires.kids x) refl in
    omega (arith, A.1, C.kids, c.requires.there.5, few-holes c.args.shapes.now, c.requires.room)

pub loosen-requires-clause-there : goal.loosen-requires-clause-there
loosen-requires-clause-there c =
    let x = c.requires.there.2 in
    let C = cut-at x.nodes x.place c.args.call (c.limit-before.ensures.sound.term x.root x.nodes x.stands) x.there in
    let A = told-args x.nodes x.place c.args.call c.args.kids.now c.args.kids.now C (c.requires.kids x) refl in
    (x.root, x.nodes, x.place, args_at x.nodes x.place, x.stands, laced-cut x.nodes x.place c.args.call C, A.0)

pub build_over-copied-requires-clause-linear : goal.build_over-copied-requires-clause-linear
build_over-copied-requires-clause-linear c =
    let x = c.requires.there.2 in
    let C = cut-at x.nodes x.place c.args.call (c.limit-before.ensures.sound.term x.root x.nodes x.stands) x.there in
    let A = told-args x.nodes x.place c.args.call c.args.kids.now c.args.kids.now C (c.requires.kids x) refl in
    sym c.requires.there.5 ∙ C.kids ∙ sym A.1

pub build_over-copied-requires-clause-roots : goal.build_over-copied-requires-clause-roots
build_over-copied-requires-clause-roots c =
    let x = c.requires.there.2 in
    let C = cut-at x.nodes x.place c.args.call (c.limit-before.ensures.sound.term x.root x.nodes x.stands) x.there in
    let A = told-args x.nodes x.place c.args.call c.args.kids.now c.args.kids.now C (c.requires.kids x) refl in
    let D = c.loosen.ensures.loosened x.root x.nodes x.place (args_at x.nodes x.place) x.stands (laced-cut x.nodes x.place c.args.call C) A.0 in
    D.roots

pub build_over-copied-requires-clause-distinct : goal.build_over-copied-requires-clause-distinct
build_over-copied-requires-clause-distinct c =
    let x = c.requires.there.2 in
    let C = cut-at x.nodes x.place c.args.call (c.limit-before.ensures.sound.term x.root x.nodes x.stands) x.there in
    let A = told-args x.nodes x.place c.args.call c.args.kids.now c.args.kids.now C (c.requires.kids x) refl in
    let D = c.loosen.ensures.loosened x.root x.nodes x.place (args_at x.nodes x.place) x.stands (laced-cut x.nodes x.place c.args.call C) A.0 in
    D.distinct

pub replace-requires-clause-held : goal.replace-requires-clause-held
replace-requires-clause-held c =
    let x = c.requires.there.2 in
    let C = cut-at x.nodes x.place c.args.call (c.limit-before.ensures.sound.term x.root x.nodes x.stands) x.there in
    let A = told-args x.nodes x.place c.args.call c.args.kids.now c.args.kids.now C (c.requires.kids x) refl in
    let D = c.loosen.ensures.loosened x.root x.nodes x.place (args_at x.nodes x.place) x.stands (laced-cut x.nodes x.place c.args.call C) A.0 in
    held-on c.args.arena.now c.loosen.new.arena c.build_over-copied.new.arena c.args.roots.now c.args.call c.args.kids.now c.build_over-copied.result.root (copied c.args.shapes.now (terms_of c.loosen.new.arena c.args.kids.now) c.build_over-copied.ensures.built.keys) c.requires.held c.requires.there.0 c.requires.there.1 x c.requires.there.3 c.requires.there.4 (args_at x.nodes x.place) (laced-cut x.nodes x.place c.args.call C) D (record { term = c.build_over-copied.ensures.built.term; origin = c.build_over-copied.ensures.built.origin; others = c.build_over-copied.ensures.built.others })

pub replace-requires-clause-there : goal.replace-requires-clause-there
replace-requires-clause-there c =
    let x = c.requires.there.2 in
    let C = cut-at x.nodes x.place c.args.call (c.limit-before.ensures.sound.term x.root x.nodes x.stands) x.there in
    let A = told-args x.nodes x.place c.args.call c.args.kids.now c.args.kids.now C (c.requires.kids x) refl in
    let D = c.loosen.ensures.loosened x.root x.nodes x.place (args_at x.nodes x.place) x.stands (laced-cut x.nodes x.place c.args.call C) A.0 in
    (c.requires.there.0, c.requires.there.1, call-at c.args.arena.now c.loosen.new.arena c.build_over-copied.new.arena c.args.roots.now c.args.call c.args.kids.now c.build_over-copied.result.root (copied c.args.shapes.now (terms_of c.loosen.new.arena c.args.kids.now) c.build_over-copied.ensures.built.keys) c.requires.held c.requires.there.0 c.requires.there.1 x c.requires.there.3 c.requires.there.4 (args_at x.nodes x.place) (laced-cut x.nodes x.place c.args.call C) D (record { term = c.build_over-copied.ensures.built.term; origin = c.build_over-copied.ensures.built.origin; others = c.build_over-copied.ensures.built.others }), c.requires.there.3, c.requires.there.4)

pub replace-requires-clause-apart : goal.replace-requires-clause-apart
replace-requires-clause-apart c =
    let x = c.requires.there.2 in
    let C = cut-at x.nodes x.place c.args.call (c.limit-before.ensures.sound.term x.root x.nodes x.stands) x.there in
    let A = told-args x.nodes x.place c.args.call c.args.kids.now c.args.kids.now C (c.requires.kids x) refl in
    let D = c.loosen.ensures.loosened x.root x.nodes x.place (args_at x.nodes x.place) x.stands (laced-cut x.nodes x.place c.args.call C) A.0 in
    new-apart c.args.arena.now c.loosen.new.arena c.build_over-copied.new.arena c.args.roots.now c.args.call c.args.kids.now c.build_over-copied.result.root (copied c.args.shapes.now (terms_of c.loosen.new.arena c.args.kids.now) c.build_over-copied.ensures.built.keys) c.requires.held c.requires.there.0 c.requires.there.1 x c.requires.there.3 c.requires.there.4 (args_at x.nodes x.place) (laced-cut x.nodes x.place c.args.call C) D (record { term = c.build_over-copied.ensures.built.term; origin = c.build_over-copied.ensures.built.origin; others = c.build_over-copied.ensures.built.others })

pub replace-requires-clause-new : goal.replace-requires-clause-new
replace-requires-clause-new c =
    let x = c.requires.there.2 in
    let C = cut-at x.nodes x.place c.args.call (c.limit-before.ensures.sound.term x.root x.nodes x.stands) x.there in
    let A = told-args x.nodes x.place c.args.call c.args.kids.now c.args.kids.now C (c.requires.kids x) refl in
    let D = c.loosen.ensures.loosened x.root x.nodes x.place (args_at x.nodes x.place) x.stands (laced-cut x.nodes x.place c.args.call C) A.0 in
    new-stands c.args.arena.now c.loosen.new.arena c.build_over-copied.new.arena c.args.roots.now c.args.call c.args.kids.now c.build_over-copied.result.root (copied c.args.shapes.now (terms_of c.loosen.new.arena c.args.kids.now) c.build_over-copied.ensures.built.keys) c.requires.held c.requires.there.0 c.requires.there.1 x c.requires.there.3 c.requires.there.4 (args_at x.nodes x.place) (laced-cut x.nodes x.place c.args.call C) D (record { term = c.build_over-copied.ensures.built.term; origin = c.build_over-copied.ensures.built.origin; others = c.build_over-copied.ensures.built.others })

pub replace-requires-clause-root : goal.replace-requires-clause-root
replace-requires-clause-root c = λ y.
    let x = c.requires.there.2 in
    let C = cut-at x.nodes x.place c.args.call (c.limit-before.ensures.sound.term x.root x.nodes x.stands) x.there in
    let A = told-args x.nodes x.place c.args.call c.args.kids.now c.args.kids.now C (c.requires.kids x) refl in
    let D = c.loosen.ensures.loosened x.root x.nodes x.place (args_at x.nodes x.place) x.stands (laced-cut x.nodes x.place c.args.call C) A.0 in
    let z = call-at c.args.arena.now c.loosen.new.arena c.build_over-copied.new.arena c.args.roots.now c.args.call c.args.kids.now c.build_over-copied.result.root (copied c.args.shapes.now (terms_of c.loosen.new.arena c.args.kids.now) c.build_over-copied.ensures.built.keys) c.requires.held c.requires.there.0 c.requires.there.1 x c.requires.there.3 c.requires.there.4 (args_at x.nodes x.place) (laced-cut x.nodes x.place c.args.call C) D (record { term = c.build_over-copied.ensures.built.term; origin = c.build_over-copied.ensures.built.origin; others = c.build_over-copied.ensures.built.others }) in
    let q = (c.limit-after.ensures.sound.once c.args.call y z).1 in
    subst (λ (p : ℕ). IsTrue c.is_root-is_root.result ↔ (p ≡ 0)) (sym q) (c.is_root-is_root.ensures x)

pub returns-clause-inlined : goal.returns-clause-inlined
returns-clause-inlined c = λ i k x e f.
    let C = cut-at x.nodes x.place c.args.call (c.limit-before.ensures.sound.term x.root x.nodes x.stands) x.there in
    let A = told-args x.nodes x.place c.args.call c.args.kids.now c.args.kids.now C (c.requires.kids x) refl in
    let D = c.loosen.ensures.loosened x.root x.nodes x.place (args_at x.nodes x.place) x.stands (laced-cut x.nodes x.place c.args.call C) A.0 in
    let B = c.build_over-copied.ensures.built in
    let R = c.replace.ensures.changed i k (call-at c.args.arena.now c.loosen.new.arena c.build_over-copied.new.arena c.args.roots.now c.args.call c.args.kids.now c.build_over-copied.result.root (copied c.args.shapes.now (terms_of c.loosen.new.arena c.args.kids.now) c.build_over-copied.ensures.built.keys) c.requires.held i k x e f (args_at x.nodes x.place) (laced-cut x.nodes x.place c.args.call C) D (record { term = c.build_over-copied.ensures.built.term; origin = c.build_over-copied.ensures.built.origin; others = c.build_over-copied.ensures.built.others })) (copied c.args.shapes.now (terms_of c.loosen.new.arena c.args.kids.now) B.keys) e f B.term in
    record {
      keys = B.keys;
      many = B.many;
      changed = record { held = R.held; bodies = remade c.args.arena.now c.loosen.new.arena c.build_over-copied.new.arena c.args.roots.now c.args.call c.args.kids.now c.build_over-copied.result.root (copied c.args.shapes.now (terms_of c.loosen.new.arena c.args.kids.now) c.build_over-copied.ensures.built.keys) c.requires.held i k x e f (args_at x.nodes x.place) (laced-cut x.nodes x.place c.args.call C) D (record { term = c.build_over-copied.ensures.built.term; origin = c.build_over-copied.ensures.built.origin; others = c.build_over-copied.ensures.built.others }) c.replace.new.arena c.replace.new.roots R.bodies ∙ ap (λ (gs : List (List Node)). set (terms_of c.args.arena.now c.args.roots.now) i (with_subterm kids_of x.nodes x.place (copied c.args.shapes.now gs B.keys))) D.given };
      follows = B.follows c.requires.once;
      first = first-copied x.nodes x.place c.args.shapes.now (args_at x.nodes x.place) B.keys c.build_over-copied.result.root C.place
          (subst (λ (gs : List (List Node)). key_in (copied c.args.shapes.now gs B.keys) 0 ≡ Some c.build_over-copied.result.root) D.given
          (c.limit-after.ensures.sound.first c.build_over-copied.result.root.number (copied c.args.shapes.now (terms_of c.loosen.new.arena c.args.kids.now) B.keys) B.term));
    }
