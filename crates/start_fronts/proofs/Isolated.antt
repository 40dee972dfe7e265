-- Calls along a chain, each of which is inlined once: of the start's nodes the first alone goes.
use Rattle.std.proofs.Common.{◌≡◌, ◌≢◌, ℕ, zero, suc, ◌+◌, ◌-◌, ◌≤◌, List, [], ◌∷◌, All, drop, get_or, length, Some, refl, ap, ◌∙◌, subst, arith}
use Rattle.std.specs.Prelude.{slice_get}
use Rattle.std.proofs.lemmas.Option.{get_or_from_slice_get}
use Rattle.rule_arena.specs.Terms.{Node, key_in}
use Rattle.rule_arena.specs.declared.key.Key.{Key}
use Rattle.rule_arena.specs.declared.label.Label.{Label}
use Rattle.rule_arena.specs.declared.label.Label.TheVariants.{Bottom, Symbol, Call, Param}
use Rattle.slt_grammar.specs.Copying.{copied, copied_node, hole}
use Rattle.slt_grammar.specs.Keyed.{IsKeyed, Keyed, KeyedRule, key_at, labels_of, nodes_at}
use Rattle.slt_grammar.specs.KeyedEdits.{IsInlined, StandsAsCall, label_at}
use Rattle.slt_grammar.proofs.KeyedLemmas.{body_at-rules_of}
use Rattle.start_fronts.specs.Before.{KeepsBefore}
use Rattle.start_fronts.specs.Isolating.{KeepsButFirst}
use Rattle.start_fronts.proofs.Composing.{keeps-all, keeps-both}
use Rattle.start_fronts.proofs.Flags.{has-key, one_if, times}
use Rattle.start_fronts.proofs.Inlined.{keeps-inlining, not-new}
use Rattle.start_fronts.proofs.Keeping.{Once, lawful, not-gone, once-in}

pub begins : (G : List KeyedRule) (first : Key) → KeepsButFirst G G first first
begins G first = record { keeps = λ key place there apart. keeps-all G key place there (λ k d h. absurd (omega (arith, h))); new = λ key place there d. d }

get-rest : (keys : List Key) (j : ℕ) → slice_get (drop 1 keys) j ≡ slice_get keys (suc j)
get-rest [] j = refl
get-rest (k ∷ keys) j = refl

-- a node that is no parameter has its new key in the copy
copied-has : (ns : List Node) (keys : List Key) (j : ℕ) (follow moved : Key) → key_in ns j ≡ Some follow → get_or (labels_of ns) j Bottom ≢ Param → slice_get keys j ≡ Some moved → 1 ≤ times moved (copied ns [] keys)
copied-has [] keys j follow moved e d k = absurd (let z : key_in [] j ≡ Some follow = e in cc)
copied-has (n ∷ ns) keys zero follow moved e d k = at n.label d
  where
    new : Node
    new = record n { key = get_or keys 0 n.key }

    here : (rest : List Node) → 1 ≤ times moved (new ∷ rest)
    here rest = omega (arith, ap one_if (has-key moved new (get_or_from_slice_get keys 0 moved n.key k)))

    at : (l : Label) → (l ≢ Param) → 1 ≤ times moved (copied_node l n (get_or keys 0 n.key) [] (copied ns (drop (hole l) []) (drop 1 keys)))
    at Bottom d = here (copied ns (drop (hole Bottom) []) (drop 1 keys))
    at (Symbol f) d = here (copied ns (drop (hole (Symbol f)) []) (drop 1 keys))
    at (Call q) d = here (copied ns (drop (hole (Call q)) []) (drop 1 keys))
    at Param d = absurd (d refl)
copied-has (n ∷ ns) keys (suc j) follow moved e d k = at n.label (copied-has ns (drop 1 keys) j follow moved e d (get-rest keys j ∙ k))
  where
    at : (l : Label) → 1 ≤ times moved (copied ns [] (drop 1 keys)) → 1 ≤ times moved (copied_node l n (get_or keys 0 n.key) [] (copied ns (drop (hole l) []) (drop 1 keys)))
    at Bottom h = omega (arith, h)
    at (Symbol f) h = omega (arith, h)
    at (Call q) h = omega (arith, h)
    at Param h = h

two-apart : (a b key : Key) → (a ≢ key) → (b ≢ key) → All (λ k. k ≢ key) (a ∷ b ∷ [])
two-apart a b key d e zero k h = d
two-apart a b key d e (suc zero) k h = e
two-apart a b key d e (suc (suc i)) k h = absurd (omega (arith, h))

one-apart : (a key : Key) → (a ≢ key) → All (λ k. k ≢ key) (a ∷ [])
one-apart a key d zero k h = d
one-apart a key d (suc i) k h = absurd (omega (arith, h))

pub goes-on : (G : List KeyedRule) (g h : Keyed) (first here : Key) → KeepsButFirst G g.rules first here → IsKeyed g → IsKeyed h → (C : StandsAsCall g.rules here) → C.here.rule + 1 ≡ length g.rules
    → (follow moved : Key) → IsInlined g.rules h.rules C.here.rule C.here.place C.called follow moved
    → (j : ℕ) → key_at g.rules C.called j ≡ Some follow → label_at g.rules C.called j ≢ Param → KeepsButFirst G h.rules first moved
goes-on G g h first here B K M C start follow moved I j at real = record { keeps = keeps; new = new }
  where
    keeps : KeepsBefore (first ∷ []) G h.rules
    keeps key place there apart =
        let d = not-gone first key apart in
        keeps-both (first ∷ []) (here ∷ []) G g.rules h.rules B.keeps (keeps-inlining g h K M here C follow moved I) key place there (two-apart first here key d (B.new key place there d))

    new : (key : Key) (place : ℕ) → key_at G (length G - 1) place ≡ Some key → first ≢ key → moved ≢ key
    new key place there d e =
        let r : ℕ = C.here.rule in
        let s = B.keeps key place there (one-apart first key d) in
        let last : r ≡ length g.rules - 1 = omega (arith, start) in
        let none =
        not-new g.rules r C.here.place C.called here I.keys (lawful g K) C.here.there C.label
        (subst (λ (Q : List KeyedRule). Once Q r) I.rules (once-in h M r)) s.now key (ap (λ i. key_at g.rules i s.now) last ∙ s.there) (B.new key place there d) in
        let some =
        copied-has (nodes_at g.rules C.called) I.keys j follow moved at (λ z. real (ap (λ ls. get_or ls j Bottom) (body_at-rules_of g.rules C.called) ∙ z)) (I.follows j at) in
        omega (arith, none, some, ap (λ (k : Key). times k (copied (nodes_at g.rules C.called) [] I.keys)) e)
