-- A turn of a cursor.
use Rattle.std.proofs.Common.{◌≡◌, ℕ, List, [], ◌∷◌, ◌++◌, length, drop, ap, ◌∙◌, subst, Option, None, Some, append-nil}
use Rattle.std.specs.Prelude.{slice_get}
use Rattle.std.specs.Option.{option_to_list}
use Rattle.rule_arena.specs.declared.label.Label.{Label}
use Rattle.slt_grammar.specs.Keyed.{Keyed, KeyedRule, IsKeyed, key_at, nodes_at}
use Rattle.preorder_address.specs.declared.descent.RuleStop.{RuleStop}
use Rattle.value_cursor.specs.Cursors.{IsStanding, left_at, left_of}
use Rattle.value_cursor.specs.Kept.{again_of, label_of, labels_of}
use Rattle.value_cursor.specs.Stops.{AreStops, behind, segment_left, stops_of}
use Rattle.value_cursor.specs.declared.cursor.Cursor.{Cursor}
use Rattle.value_cursor.specs.declared.cursor.Token.{Token}
use Rattle.value_cursor.specs.declared.cursor.Token.TheVariants.{Open, Close}
use Rattle.value_cursor.proofs.CallLemmas.{stops-front}
use Rattle.value_cursor.proofs.Leaving.{last-at, last-below, last-node, node-label, node-once}
use Rattle.value_cursor.proofs.StopSteps.{left-bottom, left-symbol}

-- what is left of a cursor is as it was, and nothing is told again
pub record Leads (G : List KeyedRule) (first now : Cursor) : Type 0 where
  pub standing : IsStanding G now
  pub none : labels_of (again_of now.kept) ≡ []
  pub left : left_of G first ≡ left_at G now.here now.calls.items
  pub opened : now.opened ≡ first.opened

-- the token of a stop tells the first label that is left
module _ (g : Keyed) (k : IsKeyed g) (calls : List RuleStop) (s : RuleStop) (a : AreStops g.rules (length g.rules) (calls ++ s ∷ [])) (l : Label)
    (node : (r p : ℕ) → key_at g.rules r p ≡ Some s.walk.key → (n : ℕ) × (slice_get (nodes_at g.rules r) p ≡ Some (record { key = s.walk.key; label = l; kids = n }))) where
  pub token-left : (t : Token) → l ≡ label_of t → s.walk.part ≡ 0 → left_at g.rules (Some s) calls ≡ label_of t ∷ (segment_left g.rules (drop 1 (stops_of g.rules s)) ++ behind g.rules calls [])
  token-left (Open f) e z =
      ap (λ ls. ls ++ behind g.rules calls []) (left-symbol g k s (last-below g k calls s a) (last-at g k calls s a) (last-node g k calls s a) (node-once g k calls s a) f (node-label g k calls s a l node ∙ e) z)
  token-left Close e z =
      ap (λ ls. ls ++ behind g.rules calls []) (left-bottom g k s (last-below g k calls s a) (last-at g k calls s a) (last-node g k calls s a) (node-once g k calls s a) (node-label g k calls s a l node ∙ e) z)

-- a cursor has this stop and these calls
module _ (G : List KeyedRule) (later : Cursor) (stop : Option RuleStop) (calls : List RuleStop) (is_stop : later.here ≡ stop) (are_calls : later.calls.items ≡ calls) where
  pub same-at : left_at G later.here later.calls.items ≡ left_at G stop calls
  same-at = ap (λ (o : Option RuleStop). left_at G o later.calls.items) is_stop ∙ ap (λ (ss : List RuleStop). left_at G stop ss) are_calls

-- the cursor's stop is s
module _ (G : List KeyedRule) (first now : Cursor) (i : Leads G first now) (s : RuleStop) (here : now.here ≡ Some s) where
  pub stops-now : AreStops G (length G) (now.calls.items ++ s ∷ [])
  stops-now = subst (λ (o : Option RuleStop). AreStops G (length G) (now.calls.items ++ option_to_list o)) here i.standing.stops

  pub left-now : left_of G first ≡ left_at G (Some s) now.calls.items
  left-now = i.left ∙ ap (λ o. left_at G o now.calls.items) here

-- no stop is left
pub stops-alone : (G : List KeyedRule) (calls : List RuleStop) (o : Option RuleStop) → AreStops G (length G) (calls ++ option_to_list o) → AreStops G (length G) (calls ++ [])
stops-alone G calls None a = a
stops-alone G calls (Some s) a = rw append-nil (stops-front G (length G) calls s a)
