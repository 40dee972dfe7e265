-- A rule that is put among others and taken away again leaves all as it was.
use Rattle.std.proofs.Common.{◌≡◌, ◌≤◌, ℕ, zero, suc, List, [], ◌∷◌, map, length, insert, remove, refl, ap, sym, ◌∙◌, arith}
use Rattle.std.proofs.lemmas.List.{length-map}
use Rattle.rule_arena.specs.Terms.{Node}
use Rattle.rule_arena.specs.declared.label.Label.{Label}
use Rattle.slt_grammar.specs.Names.{Bottom, Symbol, Call, Param}
use Rattle.slt_grammar.specs.Editing.{shifted, shifted_label}
use Rattle.slt_grammar.specs.Keyed.{Keyed, KeyedRule, key_at}
use Rattle.slt_grammar.specs.KeyedEdits.{shifted_keyed, unshifted_keyed, rule_put, rule_dropped}
use Rattle.slt_grammar.specs.Placing.{shifted_node, unshifted, unshifted_label, unshifted_node}
use Rattle.digram_index.specs.Digrams.{occurrence_at}
use Rattle.digram_index.specs.Linked.{Linked, IsIndexOf, cell}

place-back : (place q : ℕ) → unshifted place (shifted place q) ≡ q
place-back zero q = omega arith
place-back (suc place) zero = refl
place-back (suc place) (suc q) = ap suc (place-back place q)

label-back : (place : ℕ) (l : Label) → unshifted_label place (shifted_label place l) ≡ l
label-back place Bottom = refl
label-back place (Symbol f) = refl
label-back place (Call q) = ap (λ (x : ℕ). Call x) (place-back place q)
label-back place Param = refl

nodes-back : (place : ℕ) (ns : List Node) → map (unshifted_node place) (map (shifted_node place) ns) ≡ ns
nodes-back place [] = refl
nodes-back place (n ∷ ns) =
    ap (λ (l : Label). let m : Node = record n { label = l } in m ∷ map (unshifted_node place) (map (shifted_node place) ns)) (label-back place n.label)
    ∙ ap (λ (ms : List Node). n ∷ ms) (nodes-back place ns)

all-back : (place : ℕ) (G : List KeyedRule) → map (unshifted_keyed place) (map (shifted_keyed place) G) ≡ G
all-back place [] = refl
all-back place (R ∷ G) =
    ap (λ (ns : List Node). let S : KeyedRule = record { rank = R.rank; nodes = ns } in S ∷ map (unshifted_keyed place) (map (shifted_keyed place) G)) (nodes-back place R.nodes)
    ∙ ap (λ (H : List KeyedRule). R ∷ H) (all-back place G)

remove-insert : {X : Type 0} (xs : List X) (i : ℕ) (y : X) → i ≤ length xs → remove (insert xs i y) i ≡ xs
remove-insert xs zero y h = refl
remove-insert [] (suc i) y h = absurd (omega arith)
remove-insert (x ∷ xs) (suc i) y h = ap (λ ys. x ∷ ys) (remove-insert xs i y (omega arith))

-- the rules are those of before
pub rules-back : (G : List KeyedRule) (place : ℕ) (R : KeyedRule) → place ≤ length G → rule_dropped (rule_put G place R) place ≡ G
rules-back G place R h =
    ap (map (unshifted_keyed place)) (remove-insert (map (shifted_keyed place) G) place R (omega (arith, h, length-map G (shifted_keyed place))))
    ∙ all-back place G

-- where the rules and the cells are those of before, so is the index
pub index-back : (g h : Keyed) (I J : Linked) → IsIndexOf g I → h.rules ≡ g.rules → (J.rules ≡ I.rules) × ((k : ℕ) → cell J k ≡ cell I k) → IsIndexOf h J
index-back g h I J A e same = record {
  rules = let a = A.rules in let r = same.0 in let n = ap length e in omega arith;
  all = λ r p key k. same.1 key.number ∙ A.all r p key (ap (λ H. key_at H r p) (sym e) ∙ k) ∙ ap (λ H. occurrence_at H r p) (sym e);
  only = λ k x.
      let w = A.only k (λ z. x (same.1 k ∙ z)) in
      (w.0, (w.1.0, (w.1.1.0, (ap (λ H. key_at H w.1.0 w.1.1.0) e ∙ w.1.1.1.0, w.1.1.1.1))));
}
