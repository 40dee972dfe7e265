-- A descent that keeps the last node that it gave.
use Rattle.std.proofs.Common.{◌≡◌, ℕ, ◌+◌, ◌≤◌, List, [], ◌∷◌, refl, arith, Option, Some, None, subst, ap, sym, ◌∙◌}
use Rattle.std.specs.Prelude.{slice_get}
use Rattle.rule_arena.specs.Terms.{Node}
use Rattle.rule_arena.specs.declared.key.Key.{Key}
use Rattle.rule_arena.specs.declared.label.Label.{Label}
use Rattle.slt_grammar.specs.Keyed.{KeyedRule, nodes_at, key_at}
use Rattle.slt_grammar.specs.declared.level.Level.{Level}
use Rattle.slt_grammar.proofs.TourWalking.{node-key}
use Rattle.preorder_address.specs.Chains.{LeadsTo}
use Rattle.preorder_address.specs.Descents.{IsInside, levels_of, steps_of}
use Rattle.preorder_address.specs.declared.descent.Descent.{Descent}

-- this key's node has the label
pub record IsLast (G : List KeyedRule) (key : Key) (f : Label) : Type 0 where
  pub rule : ℕ
  pub place : ℕ
  pub node : Node
  pub there : slice_get (nodes_at G rule) place ≡ Some node
  pub key_is : node.key ≡ key
  pub label : node.label ≡ f

-- the levels lead on to the label, or the last node has it
abbrev pub Heads : List KeyedRule → Option Key → List Level → Label → Type 0
Heads G None [] f = ⊥
Heads G (Some key) [] f = IsLast G key f
Heads G last (l ∷ ls) f = LeadsTo G l.rule (l ∷ ls) f

pub heads-start : (G : List KeyedRule) (r : ℕ) (ls : List Level) (f : Label) → LeadsTo G r ls f → Heads G None ls f
heads-start G r [] f c = c
heads-start G r (l ∷ []) f c = (refl, c.1)
heads-start G r (l ∷ k ∷ ls) f c = (refl, c.1, c.2)

pub heads-more : (G : List KeyedRule) (last : Option Key) (l : Level) (ls : List Level) (f : Label) → Heads G last (l ∷ ls) f → Heads G (Some l.key) ls f
heads-more G last l [] f c = record { rule = l.rule; place = c.1.place; node = c.1.node; there = c.1.there; key_is = c.1.key; label = c.1.label }
heads-more G last l (k ∷ ls) f c = heads-start G k.rule (k ∷ ls) f c.2

-- a descent on its way to each label to which it led at first
pub record Heading (G : List KeyedRule) (start d : Descent) (last : Option Key) (first steps : ℕ) : Type 0 where
  pub inside : IsInside G d
  pub heads : (r : ℕ) (f : Label) → LeadsTo G r (levels_of G start) f → Heads G last (levels_of G d) f
  pub few : steps + steps_of G d ≤ first + steps_of G start

pub heading-start : (G : List KeyedRule) (d : Descent) (steps : ℕ) → IsInside G d → Heading G d d None steps steps
heading-start G d steps i = record { inside = i; heads = λ r f c. heads-start G r (levels_of G d) f c; few = omega arith }

module _ (G : List KeyedRule) (start d : Descent) (last : Option Key) (first steps : ℕ) (h : Heading G start d last first steps) where
  pub heading-next : (l : Level) (e : Descent) (steps' : ℕ) → levels_of G d ≡ l ∷ levels_of G e → IsInside G e → steps' + steps_of G e ≤ steps + steps_of G d → Heading G start e (Some l.key) first steps'
  heading-next l e steps' g i s = record {
    inside = i;
    heads = λ r f c. heads-more G last l (levels_of G e) f (subst (λ (ls : List Level). Heads G last ls f) g (h.heads r f c));
    few = omega (arith, h.few, s);
  }

  module _ (g : levels_of G d ≡ []) (r : ℕ) (f : Label) (c : LeadsTo G r (levels_of G start) f) where
    at-end : Heads G last [] f
    at-end = subst (λ (ls : List Level). Heads G last ls f) g (h.heads r f c)

    pub heading-none : last ≡ None → ⊥
    heading-none e = subst (λ (o : Option Key). Heads G o [] f) e at-end

    pub heading-last : (key : Key) → last ≡ Some key → IsLast G key f
    heading-last key e = subst (λ (o : Option Key). Heads G o [] f) e at-end

abbrev pub last-there : (G : List KeyedRule) (key : Key) (f : Label) → IsLast G key f → (r : ℕ) × (p : ℕ) × (key_at G r p ≡ Some key)
last-there G key f l = (l.rule, l.place, node-key (nodes_at G l.rule) l.place l.node l.there ∙ ap Some l.key_is)

-- the label of what stands at the last node
pub last-label : (G : List KeyedRule) (key : Key) (f : Label) → IsLast G key f → (x : Node) → ((r p : ℕ) → key_at G r p ≡ Some key → slice_get (nodes_at G r) p ≡ Some x) → x.label ≡ f
last-label G key f l x item =
    let e : Some x ≡ Some l.node = sym (item l.rule l.place (last-there G key f l).2) ∙ l.there in
    let g : x ≡ l.node = cc in
    ap (λ (y : Node). y.label) g ∙ l.label
