-- From levels that lead to a label to chains with places.
use Rattle.std.proofs.Common.{◌≡◌, ℕ, ◌<◌, List, [], ◌∷◌, get_or, Some, sym, ap, ◌∙◌, subst, arith}
use Rattle.rule_arena.specs.declared.key.Key.{Key}
use Rattle.rule_arena.specs.declared.label.Label.{Label}
use Rattle.rule_arena.specs.declared.label.Label.TheVariants.{Bottom, Symbol, Call, Param}
use Rattle.rule_arena.proofs.NodeLemmas.{key_of_node}
use Rattle.slt_grammar.specs.Keyed.{KeyedRule, key_at, nodes_at}
use Rattle.slt_grammar.specs.KeyedEdits.{label_at}
use Rattle.slt_grammar.specs.declared.level.Level.{Level}
use Rattle.slt_grammar.proofs.Agreeing.{label-is}
use Rattle.slt_grammar.proofs.KeyedLemmas.{body_at-rules_of}
use Rattle.preorder_address.specs.Chains.{HasLabel, LeadsTo}
use Rattle.preorder_address.specs.Numberings.{weigh_by}
use Rattle.preorder_address.specs.declared.numbering.Numbering.{Numbering}
use Rattle.preorder_address.specs.declared.numbering.Numbering.TheVariants.{Nodes, All}
use Rattle.path_isolation.specs.Chains.{IsOfValue, Leads, last_label}

-- what is counted is of the value
pub of-value : (by : Numbering) (l : Label) → 0 < weigh_by by l → IsOfValue l
of-value by Bottom h = tt
of-value by (Symbol f) h = tt
of-value Nodes (Call q) h = absurd (omega (arith, h))
of-value All (Call q) h = absurd (omega (arith, h))
of-value Nodes Param h = absurd (omega (arith, h))
of-value All Param h = absurd (omega (arith, h))

labelled-there : (G : List KeyedRule) (l : Level) (f : Label) (h : HasLabel G l f) → (key_at G l.rule h.place ≡ Some l.key) × (label_at G l.rule h.place ≡ f)
labelled-there G l f h = (
  key_of_node (nodes_at G l.rule) h.place h.node h.there ∙ ap (λ (k : Key). Some k) h.key,
  ap (λ ls. get_or ls h.place Bottom) (body_at-rules_of G l.rule) ∙ label-is (nodes_at G l.rule) h.place h.node h.there ∙ h.label,
)

-- the nodes of a chain have places
pub record HavePlaces (G : List KeyedRule) (r : ℕ) (l : Level) (ls : List Level) (f : Label) : Type 0 where
  pub place : ℕ
  pub places : List ℕ
  pub rule : l.rule ≡ r
  pub there : key_at G l.rule place ≡ Some l.key
  pub leads : Leads G (label_at G l.rule place) ls places
  pub last : last_label G (label_at G l.rule place) ls places ≡ f

pub leads-on : (G : List KeyedRule) (r : ℕ) (l : Level) (ls : List Level) (f : Label) → LeadsTo G r (l ∷ ls) f → IsOfValue f → HavePlaces G r l ls f
leads-on G r l [] f h v =
    let w = labelled-there G l f h.1 in
    record { place = h.1.place; places = []; rule = h.0; there = w.0; leads = subst IsOfValue (sym w.1) v; last = w.1 }
leads-on G r l (k ∷ ks) f h v =
    let w = labelled-there G l (Call k.rule) h.1 in
    let P = leads-on G k.rule k ks f h.2 v in
    record { place = h.1.place; places = P.place ∷ P.places; rule = h.0; there = w.0; leads = (w.1, P.there, P.leads); last = P.last }
