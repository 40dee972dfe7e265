-- Bodies that a run is in the middle of.
use Rattle.std.specs.Prelude.{◌≡◌, ℕ, suc, ◌+◌, ◌-◌, ◌*◌, ◌^◌, ◌<◌, ◌≤◌, List, [], ◌∷◌, ◌++◌, length, get_or, take, drop, map, reverse, Some, slice_get, ◌⊎◌, All}
use Rattle.rule_arena.specs.declared.label.Label.{Label}
use Rattle.rule_arena.specs.declared.label.Label.TheVariants.{Call}
use Rattle.slt_grammar.specs.Bodies.{params}
use Rattle.slt_grammar.specs.Algebras.{Algebra}
use Rattle.slt_grammar.specs.Grammars.{body_at, rank_at, whole}
use Rattle.rule_runs.specs.Reached.{RuleStates, states_from, argument_states}
use Rattle.slt_grammar.specs.declared.rules.Rule.{Rule}
use Rattle.rule_runs.specs.declared.memo.Pair.{Pair}
use Rattle.rule_runs.specs.declared.frame.Frame.{Frame}
use Rattle.rule_runs.specs.declared.notes.Note.{Note}
use Rattle.rule_runs.specs.Entries.{key_of}
use Rattle.rule_runs.specs.Notes.{AreNotesFrom}
use Rattle.rule_runs.specs.Risen.{IsPair, state_at, keys, IsKnown, AreKnown}

-- items on top of others, the topmost first
abbrev pub IsTopmost : {X : Type 0} → List X → List X → Type 0
IsTopmost {X} top items = (others : List X) × (items ≡ top ++ others)

-- the topmost items give way to new ones, and the others stay
abbrev pub GivesWay : {X : Type 0} → List X → List X → List X → List X → Type 0
GivesWay {X} top new before after = (others : List X) → before ≡ top ++ others → after ≡ new ++ others

-- the labels of a frame's body that are left, the next first
abbrev pub ahead : {S : Type 0} → List Rule → Frame S → List Label
ahead G f = reverse (take f.left (body_at G f.pair.rule))

-- those of all these frames
abbrev pub behind : {S : Type 0} → List Rule → List (Frame S) → List Label
behind G [] = []
behind G (g ∷ gs) = ahead G g ++ behind G gs

module _ {S : Type 0} (A : Algebra S) (G : List Rule) where
  -- a body is evaluated from its end to a place: the states of the terms that begin there or behind, and how many parameters stand before
  pub record IsEvaluated (args : List S) (body : List Label) (left waiting : ℕ) (states : List S) : Type 0 where
    pub are : states ≡ states_from A G left args body
    pub before : waiting ≡ params (take left body)
    pub within : left ≤ length body

  -- the states of the terms of a frame's body that were evaluated, the first on top
  abbrev pub own : Frame S → List S
  own f = states_from A G f.left f.pair.states.items (body_at G f.pair.rule)

  -- the frame is evaluated so far
  pub record Stands (f : Frame S) : Type 0 where
    pub pair : IsPair G (key_of f.pair)
    pub evaluated : IsEvaluated f.pair.states.items (body_at G f.pair.rule) f.left f.waiting (own f)

  -- the topmost of a frame's states is the one of this pair
  abbrev pub Expects : Frame S → RuleStates S → Type 0
  Expects f k = own f ≡ state_at A G k ∷ drop 1 (own f)

  -- the frames, the innermost first: each waits for the state of the pair before it, and the outermost is the start's
  abbrev pub AreFrames : Frame S → List (Frame S) → Type 0
  AreFrames f [] = Stands f × (key_of f.pair ≡ (length G - 1, []))
  AreFrames f (g ∷ gs) = Stands f × (f.pair.rule < g.pair.rule) × Expects g (key_of f.pair) × AreFrames g gs

  -- the states on the stack of frames that wait, the topmost first: of each its own but for the one that it waits for
  abbrev pub below : List (Frame S) → List S
  below [] = []
  below (g ∷ gs) = drop 1 (own g) ++ below gs

  -- on the stack and in the list of labels each frame has what is its own above that of the frames that wait for it
  pub record AreStacked (f : Frame S) (gs : List (Frame S)) (stack : List S) (list : List Label) : Type 0 where
    pub states : stack ≡ own f ++ below gs
    pub labels : list ≡ ahead G f ++ behind G gs

  -- the calls of a pair's body from a place on are known, but for one pair
  abbrev pub AreKnownBut : List (RuleStates S × S) → RuleStates S → ℕ → RuleStates S → Type 0
  AreKnownBut known k from but = (place q : ℕ) → from ≤ place → slice_get (body_at G k.0) place ≡ Some (Call q)
      → IsKnown known (q, argument_states A G q k.1 (body_at G k.0) place) ⊎ ((q, argument_states A G q k.1 (body_at G k.0) place) ≡ but)

  -- in each outer body the calls that were read are known, but for the one that it waits for
  abbrev pub AreAwaiting : List (RuleStates S × S) → RuleStates S → List (Frame S) → Type 0
  AreAwaiting known q [] = Unit {0}
  AreAwaiting known q (g ∷ gs) = AreKnownBut known (key_of g.pair) g.left q × AreAwaiting known (key_of g.pair) gs

  -- the calls of all that was read are known
  pub record IsClosing (known : List (RuleStates S × S)) (f : Frame S) (gs : List (Frame S)) : Type 0 where
    pub now : AreKnown A G known (key_of f.pair) f.left
    pub outer : AreAwaiting known (key_of f.pair) gs
    pub all : All (λ k. AreKnown A G known k 0) (keys known)

  -- a body stands before a call of this pair, and behind the call it is noted, the first node on top
  pub record IsNotedTo (ks : List (RuleStates S)) (f : Frame S) (k : RuleStates S) (notes : List (Note S)) : Type 0 where
    pub call : slice_get (body_at G f.pair.rule) f.left ≡ Some (Call k.0)
    pub states : k.1 ≡ argument_states A G k.0 f.pair.states.items (body_at G f.pair.rule) f.left
    pub noted : AreNotesFrom A G ks (suc f.left) f.pair.states.items (body_at G f.pair.rule) notes

  -- each outer body is noted up to the call that it waits for
  abbrev pub AreNoting : List (RuleStates S) → RuleStates S → List (Frame S) → List (List (Note S)) → Type 0
  AreNoting ks k [] below = Unit {0}
  AreNoting ks k (g ∷ gs) below = IsNotedTo ks g k (get_or below 0 []) × AreNoting ks (key_of g.pair) gs (drop 1 below)

  -- a call of this pair stands in the body of that one
  pub record Calls (k q : RuleStates S) : Type 0 where
    pub place : ℕ
    pub is : slice_get (body_at G k.0) place ≡ Some (Call q.0)
    pub states : q.1 ≡ argument_states A G q.0 k.1 (body_at G k.0) place

  -- the body waits for the state of a pair that it calls
  pub record Waits (old : Frame S) (pair : Pair S) (new : Frame S) : Type 0 where
    pub stands : Stands new
    pub expects : Expects new (key_of pair)
    pub calls : Calls (key_of old.pair) (key_of pair)
    pub earlier : pair.rule < old.pair.rule
    pub there : IsPair G (key_of pair)
    pub fewer : new.left < old.left

-- the node is a call of this pair over the topmost states, and the others are left
pub record Asks {S : Type 0} (G : List Rule) (l : Label) (before : List S) (pair : Pair S) (rest : List S) : Type 0 where
  pub is : l ≡ Call pair.rule
  pub states : pair.states.items ≡ take (rank_at G pair.rule) before
  pub others : rest ≡ drop (rank_at G pair.rule) before
  pub count : length pair.states.items ≡ rank_at G pair.rule

-- the pair of a call of this rule over the topmost states is known, with this state at this place, and the others are left
pub record IsKnownCall {S : Type 0} (G : List Rule) (known : List (RuleStates S × S)) (rule : ℕ) (before : List S) (place : ℕ) (state : S) (rest : List S) : Type 0 where
  pub there : slice_get known place ≡ Some ((rule, take (rank_at G rule) before), state)
  pub others : rest ≡ drop (rank_at G rule) before

-- the frames' pairs
abbrev pub keys_of : {S : Type 0} → List (Frame S) → List (RuleStates S)
keys_of fs = map (λ f. key_of f.pair) fs

-- a bound on what is left to do
abbrev pub base : List Rule → ℕ
base G = 2 + whole G

abbrev pub cost : {S : Type 0} → List Rule → Frame S → ℕ
cost G f = f.left * base G ^ f.pair.rule + 1
