use Rattle.std.proofs.Common.{◌≡◌, ◌≢◌, ◌∙◌, ℕ, suc, List, Option, Some, IsSome, refl, sym, ap, subst, arith}
use Rattle.rule_arena.specs.Taking.{without_node}
use Rattle.rule_arena.specs.Terms.{Node, At, term_at, key_in}
use Rattle.slt_grammar.specs.KeyedEdits.{folded_nodes}
use Rattle.slt_grammar.proofs.Folded.{fits, parent-is, upper-stays, one-place, low-place, keyed}
use Rattle.slt_grammar.proofs.Replacements.{no-root}
use Rattle.slt_grammar.proofs.TourWalking.{key-node}
use Rattle.slt_grammar.proofs.fold.fold_at.Goals as goal

pub dissolve-requires : goal.dissolve-requires
dissolve-requires c = fits c.args.arena.now c.args.upper c.args.lower c.limit-before.ensures.sound c.requires

pub cut-requires : goal.cut-requires
cut-requires c =
    let x = c.requires.here in
    let n = key-node x.nodes x.place c.args.lower x.there in
    subst (λ (t : Option (List Node)). IsSome t) (sym (c.dissolve.ensures.freed x n.0 n.1)) refl

-- the term once the child is dissolved, and once it is freed
pub relabel-requires : goal.relabel-requires
relabel-requires c =
    let S = c.limit-before.ensures.sound in
    let F = c.requires in
    let x = F.here in
    let p = parent-is c.args.arena.now c.args.upper c.args.lower S F in
    let w = low-place c.args.arena.now c.args.upper c.args.lower S F in
    let s : IsSome (term_at c.args.arena.now x.root) = subst (λ (t : Option (List Node)). IsSome t) (sym x.stands) refl in
    let n = no-root c.args.arena.now c.args.lower x.root S x (omega (arith, w)) s in
    let t : term_at c.cut.new.self x.root ≡ Some (without_node x.nodes c.args.upper x.place) = c.cut.ensures.others x.root n ∙ c.dissolve.ensures.moved x c.args.upper (suc F.child) p in
    record { root = x.root; nodes = without_node x.nodes c.args.upper x.place; place = F.place; stands = t; there = upper-stays c.args.arena.now c.args.upper c.args.lower S F }

pub returns-clause-folded : goal.returns-clause-folded
returns-clause-folded c = λ y q e.
    let S = c.limit-before.ensures.sound in
    let F = c.requires in
    let x = F.here in
    let o = one-place c.args.arena.now c.args.lower x y S in
    let p = parent-is c.args.arena.now c.args.upper c.args.lower S F in
    let w = low-place c.args.arena.now c.args.upper c.args.lower S F in
    let s : IsSome (term_at c.args.arena.now x.root) = subst (λ (t : Option (List Node)). IsSome t) (sym x.stands) refl in
    let n = no-root c.args.arena.now c.args.lower x.root S x (omega (arith, w)) s in
    let t : term_at c.cut.new.self x.root ≡ Some (without_node x.nodes c.args.upper x.place) = c.cut.ensures.others x.root n ∙ c.dissolve.ensures.moved x c.args.upper (suc F.child) p in
    let z : At c.cut.new.self c.args.upper = record { root = x.root; nodes = without_node x.nodes c.args.upper x.place; place = F.place; stands = t; there = upper-stays c.args.arena.now c.args.upper c.args.lower S F } in
    let f : key_in x.nodes q ≡ Some c.args.upper = ap (λ (ns : List Node). key_in ns q) o.1.0 ∙ e in
    let k : F.place ≡ q = (keyed c.args.arena.now c.args.upper c.args.lower S F).once F.place q c.args.upper F.above f in
    ap (λ (r : ℕ). term_at c.relabel.new.self r) (sym o.0) ∙ c.relabel.ensures.changed z
    ∙ ap (λ (j : ℕ). Some (folded_nodes x.nodes j c.args.upper x.place c.args.label)) k
    ∙ ap (λ (ns : List Node). Some (folded_nodes ns q c.args.upper x.place c.args.label)) o.1.0
    ∙ ap (λ (j : ℕ). Some (folded_nodes y.nodes q c.args.upper j c.args.label)) o.1.1

pub returns-clause-others : goal.returns-clause-others
returns-clause-others c = λ y r s d.
    let S = c.limit-before.ensures.sound in
    let F = c.requires in
    let x = F.here in
    let o = one-place c.args.arena.now c.args.lower x y S in
    let p = parent-is c.args.arena.now c.args.upper c.args.lower S F in
    let w = low-place c.args.arena.now c.args.upper c.args.lower S F in
    let sx : IsSome (term_at c.args.arena.now x.root) = subst (λ (t : Option (List Node)). IsSome t) (sym x.stands) refl in
    let n = no-root c.args.arena.now c.args.lower x.root S x (omega (arith, w)) sx in
    let t : term_at c.cut.new.self x.root ≡ Some (without_node x.nodes c.args.upper x.place) = c.cut.ensures.others x.root n ∙ c.dissolve.ensures.moved x c.args.upper (suc F.child) p in
    let z : At c.cut.new.self c.args.upper = record { root = x.root; nodes = without_node x.nodes c.args.upper x.place; place = F.place; stands = t; there = upper-stays c.args.arena.now c.args.upper c.args.lower S F } in
    let m : r ≢ c.args.lower.number = no-root c.args.arena.now c.args.lower r S x (omega (arith, w)) s in
    let e : r ≢ x.root = λ h. d (h ∙ o.0) in
    c.relabel.ensures.others z r e ∙ c.cut.ensures.others r m ∙ c.dissolve.ensures.others x r e m
