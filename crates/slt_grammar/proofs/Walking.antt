-- A walk over the labels of one rule's body.
use Rattle.std.proofs.Common.{◌≡◌, ℕ, zero, suc, ◌+◌, ◌<◌, ◌^◌, List, [], ◌∷◌, length, drop, refl, ap, ◌∙◌, arith}
use Rattle.std.specs.Prelude.{Some, None, slice_get}
use Rattle.std.proofs.lemmas.List.{length-map}
use Rattle.rule_arena.specs.Terms.{Node, key_in}
use Rattle.rule_arena.specs.declared.key.Key.{Key}
use Rattle.rule_arena.specs.declared.label.Label.{Label}
use Rattle.slt_grammar.specs.Keyed.{Keyed, KeyedRule, IsKeyed, rules_of, labels_of, nodes_at, key_at}
use Rattle.slt_grammar.specs.BodyWalks.{labels_from}
use Rattle.slt_grammar.proofs.CallCounts.{nodes-room}
use Rattle.slt_grammar.proofs.KeyedLemmas.{length-rules_of, body_at-rules_of, key_at-within}

-- the labels from a place on begin with that of its node
from_node : (ns : List Node) (p : ℕ) (n : Node) → slice_get ns p ≡ Some n → drop p (labels_of ns) ≡ n.label ∷ drop (suc p) (labels_of ns)
from_node [] p n e = cc
from_node (m ∷ ns) zero n e = let same : m ≡ n = cc in rw same refl
from_node (m ∷ ns) (suc p) n e = from_node ns p n e

pub labels_from-node : (G : List KeyedRule) (r p : ℕ) (n : Node) → slice_get (nodes_at G r) p ≡ Some n → labels_from G r p ≡ n.label ∷ labels_from G r (p + 1)
labels_from-node G r p n e = let next : p + 1 ≡ suc p = omega arith in rw next (from_node (nodes_at G r) p n e)

-- where no node is, no label is left
from_end : (ns : List Node) (p : ℕ) → key_in ns p ≡ None → drop p (labels_of ns) ≡ []
from_end [] zero e = refl
from_end [] (suc p) e = refl
from_end (n ∷ ns) zero e = cc
from_end (n ∷ ns) (suc p) e = from_end ns p e

pub labels_from-end : (G : List KeyedRule) (r p : ℕ) → key_at G r p ≡ None → labels_from G r p ≡ []
labels_from-end G r p e = from_end (nodes_at G r) p e

-- places are few
pub place-few : (g : Keyed) → IsKeyed g → (r p : ℕ) (key : Key) → key_at g.rules r p ≡ Some key → p < 2 ^ 63
place-few g K r p key e =
    let within = key_at-within g.rules r p key e in
    let body = ap (λ (ls : List Label). length ls) (body_at-rules_of g.rules r) ∙ length-map (nodes_at g.rules r) (λ (n : Node). n.label) in
    omega (arith, within.0, within.1, body, K.few, nodes-room (rules_of g.rules) r (omega (arith, within.0, length-rules_of g.rules)))
