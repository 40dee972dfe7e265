-- What stands before the start's nodes along a walk.
use Rattle.std.proofs.Common.{◌≡◌, ℕ, ◌+◌, List, [], ◌∷◌, length, subst, arith}
use Rattle.rule_arena.specs.declared.key.Key.{Key}
use Rattle.slt_grammar.specs.Keyed.{IsKeyed, Keyed, KeyedRule}
use Rattle.slt_grammar.specs.KeyedEdits.{label_at}
use Rattle.slt_grammar.specs.declared.level.Level.{Level}
use Rattle.slt_grammar.proofs.KeyedLemmas.{key_at-within}
use Rattle.start_fronts.specs.Isolating.{KeepsButFirst}
use Rattle.start_fronts.proofs.Isolated.{goes-on}
use Rattle.path_isolation.specs.Chains.{Leads}
use Rattle.path_isolation.specs.Isolations.{Walk, start_of}
use Rattle.path_isolation.proofs.ChainLemmas.{inner-leads}
use Rattle.path_isolation.proofs.Marks.{IsInner}
use Rattle.path_isolation.proofs.Walks.{Inlines, walk-call}

-- the next call is inlined
pub before-inlined : (G : List KeyedRule) (levels : List Level) (qs : List ℕ) (g h : Keyed) (here key : Key) (m : Level) (ls : List Level) → IsKeyed g → IsKeyed h → Walk G levels qs g.rules here (m ∷ ls)
    → Inlines g.rules h.rules here m.key key → (O : List KeyedRule) (first : Key) → KeepsButFirst O g.rules first here → KeepsButFirst O h.rules first key
before-inlined G levels qs g h here key m ls K M w f O first B = at w.ps w.leads
  where
    start : start_of G + 1 ≡ length g.rules
    start =
        let d = (key_at-within g.rules (start_of G) w.place here w.there).0 in
        omega (arith, d, w.restated.differ.many)

    at : (ps : List ℕ) → Leads g.rules (label_at g.rules (start_of G) w.place) (m ∷ ls) ps → KeepsButFirst O h.rules first key
    at [] l = absurd l
    at (j ∷ ps) l =
        let inner : IsInner (label_at g.rules m.rule j) = inner-leads g.rules (label_at g.rules m.rule j) ls ps l.2 in
        let C = walk-call G levels qs g.rules here m ls w in
        goes-on O g h first here B K M C start m.key key (f C) j l.1 (λ e. absurd (subst IsInner e inner))
