-- Bodies that a run downward is in the middle of.
use Rattle.std.specs.Prelude.{◌≡◌, ◌<◌, ◌≤◌, ℕ, ◌+◌, ◌-◌, ◌*◌, ◌^◌, List, [], ◌∷◌, ◌++◌, length, get_or, take, drop, reverse, Option, Some, None}
use Rattle.rule_arena.specs.Preorder.{AreTerms}
use Rattle.rule_arena.specs.declared.label.Label.{Label}
use Rattle.rule_arena.specs.declared.label.Label.TheVariants.{Bottom, Symbol, Call, Param}
use Rattle.slt_grammar.specs.Algebras.{Algebra, ranks_of}
use Rattle.slt_grammar.specs.Automata.{Downward, handed}
use Rattle.slt_grammar.specs.Bodies.{arity, CallsBelow}
use Rattle.slt_grammar.specs.Grammars.{body_at, value_at}
use Rattle.rule_runs.specs.Reached.{RuleStates, states_of, Falls}
use Rattle.slt_grammar.specs.declared.rules.Rule.{Rule}
use Rattle.rule_runs.specs.declared.descent.Mark.{Mark}
use Rattle.rule_runs.specs.declared.descent.Mark.TheVariants.{Term as MarkTerm, Piece as MarkPiece}
use Rattle.rule_runs.specs.declared.descent.Descent.{Descent}
use Rattle.rule_runs.specs.declared.notes.Note.{Note}
use Rattle.rule_runs.specs.declared.notes.Note.TheVariants.{Call as NoteCall}
use Rattle.rule_runs.specs.declared.spots.Handed.{Handed}
use Rattle.rule_runs.specs.declared.spots.Spot.{Spot}
use Rattle.rule_runs.specs.declared.told.Here.{Here}
use Rattle.rule_runs.specs.declared.told.Told.{Told}
use Rattle.rule_runs.specs.Cuts.{Stretch, cut}
use Rattle.rule_runs.specs.Frames.{base}
use Rattle.rule_runs.specs.Notes.{AreNotes}
use Rattle.rule_runs.specs.Outcomes.{Outcome, befores, downs_handed, tolds}
use Rattle.rule_runs.specs.Risen.{pair_at}
use Rattle.rule_runs.specs.Tellings.{Listed, Tells, IsTelling, AreTold}
use Rattle.rule_runs.specs.Walks.{Open, Place, Piece, absorbed, after, downs_of, kids_of, told, param_downs}

-- the marks, the next one first, as what is open
abbrev pub AreOpen : {D : Type 0} → Listed → List (Mark D) → List (Open D) → Type 0
AreOpen lists [] [] = Unit {0}
AreOpen lists (MarkTerm d ∷ xs) (Place e ∷ ms) = (d ≡ e) × AreOpen lists xs ms
AreOpen lists (MarkPiece t ∷ xs) (Piece s ∷ ms) = Tells lists t s × AreOpen lists xs ms
AreOpen lists xs ms = ⊥

-- what the pieces before the next term add up to
abbrev pub ahead : {D : Type 0} → (Told → ℕ) → List (Mark D) → ℕ
ahead f [] = 0
ahead f (MarkTerm d ∷ xs) = 0
ahead f (MarkPiece t ∷ xs) = f t + ahead f xs

-- the pieces before the next term fit behind what was told so far
pub record HasRoomAhead {D : Type 0} (h : Here) (marks : List (Mark D)) : Type 0 where
  pub nodes : h.nodes + ahead (λ t. t.nodes) marks < 2 ^ 64
  pub hits : h.hits + ahead (λ t. t.hits) marks < 2 ^ 64

-- the next term's down state
abbrev pub IsFound : {D : Type 0} → Option D → List (Open D) → Type 0
IsFound None ms = downs_of ms ≡ []
IsFound (Some d) ms = downs_of ms ≡ d ∷ downs_of (after ms)

-- the way to the next term
pub record IsNext {D : Type 0} (lists : Listed) (found : Option D) (s : Stretch) (ms : List (Open D)) (marks : List (Mark D)) (here : Here) : Type 0 where
  pub telling : IsTelling lists here (absorbed s ms)
  pub marked : AreOpen lists marks (after ms)
  pub is : IsFound found ms

-- on the way there: what is absorbed and what is open lead to the same next term
pub record IsAbsorbing {D : Type 0} (lists : Listed) (s : Stretch) (ms : List (Open D)) (marks : List (Mark D)) (here : Here) : Type 0 where
  pub now : Stretch
  pub left : List (Open D)
  pub telling : IsTelling lists here now
  pub marked : AreOpen lists marks left
  pub same_stretch : absorbed s ms ≡ absorbed now left
  pub same_rest : after ms ≡ after left
  pub same_downs : downs_of ms ≡ downs_of left

module _ {S D : Type 0} (A : Algebra S) (W : Downward S D) (G : List Rule) where
  -- something holds of each call among labels, of its arguments' states and of its down state
  abbrev pub CallsMeet : (ℕ → List S → D → Type 0) → List S → List D → List Label → Type 0
  CallsMeet P args ds [] = Unit {0}
  CallsMeet P args ds (Param ∷ ls) = CallsMeet P (drop 1 args) (drop 1 ds) ls
  CallsMeet P args ds (Bottom ∷ ls) = CallsMeet P args (drop 1 ds) ls
  CallsMeet P args ds (Symbol f ∷ ls) =
      let kids = states_of A G args ls in
      let s = W.step f (get_or ds 0 W.start) (get_or kids 0 A.bottom) (get_or kids 1 A.bottom) in
      CallsMeet P args (s.left ∷ s.right ∷ drop 1 ds) ls
  CallsMeet P args ds (Call q ∷ ls) =
      let kids = kids_of A W G q args ls in
      let d = get_or ds 0 W.start in
      P q kids d × CallsMeet P args (handed A W (value_at G q) kids d ++ drop 1 ds) ls

  module _ (ks : List (RuleStates S)) (lists : Listed) where
    -- a body that is read down to a place: what was told and what is still to be told are the stretches of the rule's value
    pub record Walks (key : RuleStates S) (down : D) (notes : List (Note S)) (marks : List (Mark D)) (here : Here) (met : List (Handed D)) : Type 0 where
      pub args : List S
      pub ls : List Label
      pub ms : List (Open D)
      pub s : Stretch
      pub done : List Stretch
      pub noted : AreNotes A G ks args ls notes
      pub marked : AreOpen lists marks ms
      pub telling : IsTelling lists here s
      pub finished : AreTold lists (befores met) done
      pub stretches : done ++ told A W G args s ms ls ≡ cut A W (value_at G key.0) key.1 down
      pub hands : downs_handed met ++ param_downs A W G args (downs_of ms) ls ≡ handed A W (value_at G key.0) key.1 down
      pub terms : AreTerms (arity (ranks_of G)) (length (downs_of ms)) ls
      pub meet : CallsMeet (Falls S D A W G) args (downs_of ms) ls
      pub earlier : CallsBelow key.0 ls

    -- the outcome tells the stretches of a pair's value, and what is handed to its holes
    pub record HasOutcome (spot : Spot D) (outcome : Outcome D) : Type 0 where
      pub there : spot.pair < length ks
      pub finished : AreTold lists (tolds outcome) (cut A W (value_at G (pair_at ks spot.pair).0) (pair_at ks spot.pair).1 spot.down)
      pub hands : downs_handed outcome.handed ≡ handed A W (value_at G (pair_at ks spot.pair).0) (pair_at ks spot.pair).1 spot.down

    -- the body, of which these are the notes, the last node first, is read down to a place with these marks
    pub record Standing (f : Descent D) (marks : List (Mark D)) : Type 0 where
      pub notes : List (Note S)
      pub noted : AreNotes A G ks (pair_at ks f.spot.pair).1 (body_at G (pair_at ks f.spot.pair).0) (reverse notes)
      pub within : f.left ≤ length notes
      pub walks : Walks (pair_at ks f.spot.pair) f.spot.down (reverse (take f.left notes)) marks f.here f.handed.items

    -- the body waits for the outcome of a call
    pub record Waiting (f : Descent D) (marks : List (Mark D)) (spot : Spot D) : Type 0 where
      pub notes : List (Note S)
      pub noted : AreNotes A G ks (pair_at ks f.spot.pair).1 (body_at G (pair_at ks f.spot.pair).0) (reverse notes)
      pub within : f.left ≤ length notes
      pub walks : Walks (pair_at ks f.spot.pair) f.spot.down (NoteCall spot.pair ∷ reverse (take f.left notes)) (MarkTerm spot.down ∷ marks) f.here f.handed.items

    -- the body waits for the outcome of a call that is met for the first time
    pub record Asks (old : Descent D) (spot : Spot D) (new : Descent D) (marks : List (Mark D)) : Type 0 where
      pub waits : Waiting new marks spot
      pub met : Falls S D A W G (pair_at ks spot.pair).0 (pair_at ks spot.pair).1 spot.down
      pub there : spot.pair < length ks
      pub earlier : (pair_at ks spot.pair).0 < (pair_at ks old.spot.pair).0
      pub fewer : new.left < old.left

    -- the bodies with their marks, the innermost first: each waits for the outcome of the spot before it, and the outermost is the start's
    abbrev pub AreWaiting : Spot D → List (Descent D) → List (List (Mark D)) → Type 0
    AreWaiting spot [] mss = spot ≡ record { pair = length ks - 1; down = W.start }
    AreWaiting spot (g ∷ gs) mss =
        Waiting g (get_or mss 0 []) spot × ((pair_at ks spot.pair).0 < (pair_at ks g.spot.pair).0) × (g.spot.pair < length ks) × AreWaiting g.spot gs (drop 1 mss)

-- what a spot stands for
abbrev pub triple_at : {S D : Type 0} → List (RuleStates S) → Spot D → RuleStates S × D
triple_at ks spot = (pair_at ks spot.pair, spot.down)

-- a bound on what is left to do
abbrev pub fall_cost : {S D : Type 0} → List Rule → List (RuleStates S) → Descent D → ℕ
fall_cost G ks f = f.left * base G ^ (pair_at ks f.spot.pair).0 + 1
