-- Rules with keys, and the same rules without them.
use Rattle.std.proofs.Common.{◌≡◌, ℕ, zero, suc, ◌+◌, ◌<◌, List, [], ◌∷◌, length, Some, None, slice_get, refl, sym, ap, ◌∙◌, subst, arith}
use Rattle.std.proofs.lemmas.List.{length-map}
use Rattle.rule_arena.specs.Preorder.{AreTerms}
use Rattle.rule_arena.specs.Terms.{Node, kids_of, key_in}
use Rattle.rule_arena.specs.declared.key.Key.{Key}
use Rattle.rule_arena.specs.declared.label.Label.{Label}
use Rattle.rule_arena.proofs.PreorderLemmas.{AreTerms-unmap}
use Rattle.slt_grammar.specs.Algebras.{ranks_of}
use Rattle.slt_grammar.specs.Bodies.{arity, IsTerm}
use Rattle.slt_grammar.specs.Grammars.{body_at}
use Rattle.slt_grammar.specs.Keyed.{Keyed, KeyedRule, IsKeyed, HasArities, rules_of, labels_of, nodes_at, key_at}

pub length-rules_of : (G : List KeyedRule) → length (rules_of G) ≡ length G
length-rules_of G = length-map G _

pub body_at-rules_of : (G : List KeyedRule) (r : ℕ) → body_at (rules_of G) r ≡ labels_of (nodes_at G r)
body_at-rules_of [] r = refl
body_at-rules_of (R ∷ G) zero = refl
body_at-rules_of (R ∷ G) (suc r) = body_at-rules_of G r

-- a key stands within its rule
pub key_in-within : (ns : List Node) (p : ℕ) (key : Key) → key_in ns p ≡ Some key → p < length ns
key_in-within [] p key e = absurd (cc)
key_in-within (n ∷ ns) zero key e = omega arith
key_in-within (n ∷ ns) (suc p) key e = omega (arith, key_in-within ns p key e)

pub key_in-there : (ns : List Node) (p : ℕ) → p < length ns → (key : Key) × (key_in ns p ≡ Some key)
key_in-there [] p h = absurd (omega arith)
key_in-there (n ∷ ns) zero h = (n.key, refl)
key_in-there (n ∷ ns) (suc p) h = key_in-there ns p (omega arith)

pub key_at-within : (G : List KeyedRule) (r p : ℕ) (key : Key) → key_at G r p ≡ Some key → (r < length G) × (p < length (nodes_at G r))
key_at-within [] r p key e = absurd (let x : key_in [] p ≡ Some key = e in cc)
key_at-within (R ∷ G) zero p key e = (omega arith, key_in-within R.nodes p key e)
key_at-within (R ∷ G) (suc r) p key e = let h = key_at-within G r p key e in (omega (arith, h.0), h.1)

-- the last node of a rule is the one behind which no key stands
pub last-node : (ns : List Node) (p : ℕ) (key : Key) → key_in ns p ≡ Some key → key_in ns (p + 1) ≡ None → p + 1 ≡ length ns
last-node ns p key e n = at (key_in-within ns p key e)
  where
    at : p < length ns → p + 1 ≡ length ns
    at h = omega (arith, h, past)
      where
        past : p + 1 < length ns → ⊥
        past k = let t = key_in-there ns (p + 1) k in cc (t.1, n)

-- a node's label stands at its place in the rule without keys
pub label-there : (G : List KeyedRule) (r p : ℕ) (n : Node) → slice_get (nodes_at G r) p ≡ Some n → slice_get (body_at (rules_of G) r) p ≡ Some n.label
label-there G r p n e = ap (λ (ls : List Label). slice_get ls p) (body_at-rules_of G r) ∙ mapped (nodes_at G r) p e
  where
    mapped : (ns : List Node) (p : ℕ) → slice_get ns p ≡ Some n → slice_get (labels_of ns) p ≡ Some n.label
    mapped [] p e = absurd (cc)
    mapped (m ∷ ns) zero e = let q : m ≡ n = cc in ap (λ (x : Node). Some x.label) q
    mapped (m ∷ ns) (suc p) e = mapped ns p e

-- the nodes of each rule are one term by the numbers of their children
pub nodes-are-term : (g : Keyed) → IsKeyed g → (r : ℕ) → r < length g.rules → AreTerms kids_of 1 (nodes_at g.rules r)
nodes-are-term g K r h =
    let ranks : List ℕ = ranks_of (rules_of g.rules) in
    let n : r < length (rules_of g.rules) = omega (arith, length-rules_of g.rules) in
    let t : IsTerm ranks (labels_of (nodes_at g.rules r)) = subst (λ (ls : List Label). IsTerm ranks ls) (body_at-rules_of g.rules r) (K.grammar.each r n).shaped.term in
    by_kids ranks 1 (nodes_at g.rules r) (K.arities r) (AreTerms-unmap (λ (m : Node). m.label) (arity ranks) 1 (nodes_at g.rules r) t)
  where
    by_kids : (ranks : List ℕ) (n : ℕ) (ns : List Node) → HasArities ranks ns → AreTerms (λ m. arity ranks m.label) n ns → AreTerms kids_of n ns
    by_kids ranks zero [] a t = tt
    by_kids ranks zero (m ∷ ns) a t = absurd t
    by_kids ranks (suc n) [] a t = absurd t
    by_kids ranks (suc n) (m ∷ ns) a t =
        let e : arity ranks m.label ≡ m.kids = sym (a 0 m (omega arith)) in
        let u : AreTerms (λ m'. arity ranks m'.label) (m.kids + n) ns = subst (λ (k : ℕ). AreTerms (λ m'. arity ranks m'.label) (k + n) ns) e t in
        by_kids ranks (m.kids + n) ns (λ k d h. a (suc k) d (omega arith)) u
