-- Bodies as a run downward reads them.
use Rattle.std.specs.Prelude.{◌≡◌, ◌≤◌, ℕ, ◌+◌, List, [], ◌∷◌, length, get_or, take, drop, reverse, map, Option, Some, None, IfSome, option_map, slice_get, slice_range}
use Rattle.rule_arena.specs.declared.label.Label.{Label}
use Rattle.rule_arena.specs.declared.label.Label.TheVariants.{Bottom, Symbol, Call, Param}
use Rattle.slt_grammar.specs.Algebras.{Algebra, ranks_of}
use Rattle.slt_grammar.specs.Bodies.{params}
use Rattle.slt_grammar.specs.Grammars.{body_at}
use Rattle.rule_runs.specs.Reached.{RuleStates, states_of}
use Rattle.rule_runs.specs.Risen.{IsRun, Risen, keys as keys_in, pair_at}
use Rattle.slt_grammar.specs.declared.rules.Rule.{Rule}
use Rattle.rule_runs.specs.Spans.{LiesWithin}
use Rattle.rule_runs.specs.declared.span.Span.{Span}
use Rattle.rule_runs.specs.declared.notes.Note.{Note}
use Rattle.rule_runs.specs.declared.notes.Note.TheVariants.{Bottom as NoteBottom, Param as NoteParam, Symbol as NoteSymbol, Call as NoteCall}

module _ {S : Type 0} (A : Algebra S) (G : List Rule) (keys : List (RuleStates S)) where
  -- the note of a label that is no parameter, by the states of the terms behind it
  abbrev pub NoteIs : Label → List S → Note S → Type 0
  NoteIs Bottom states NoteBottom = Unit {0}
  NoteIs (Symbol f) states (NoteSymbol g kids rest) = (g ≡ f) × (kids ≡ get_or states 0 A.bottom) × (rest ≡ get_or states 1 A.bottom)
  NoteIs (Call q) states (NoteCall place) = slice_get keys place ≡ Some (q, take (get_or (ranks_of G) q 0) states)
  NoteIs l states n = ⊥

  -- the notes of labels, by the states of the parameters among them
  abbrev pub AreNotes : List S → List Label → List (Note S) → Type 0
  AreNotes args [] [] = Unit {0}
  AreNotes args [] (n ∷ ns) = ⊥
  AreNotes args (l ∷ ls) [] = ⊥
  AreNotes args (Param ∷ ls) (n ∷ ns) = (n ≡ NoteParam) × AreNotes (drop 1 args) ls ns
  AreNotes args (l ∷ ls) (n ∷ ns) = NoteIs l (states_of A G args ls) n × AreNotes args ls ns

  -- the notes of a body from a place on
  abbrev pub AreNotesFrom : ℕ → List S → List Label → List (Note S) → Type 0
  AreNotesFrom place args body ns = AreNotes (drop (params (take place body)) args) (drop place body) ns

  -- what is kept for the first pairs of the table: nothing yet, or the notes of the body, the last node first
  pub record AreNoted (kept : List (Option (List (Note S)))) : Type 0 where
    pub within : length kept ≤ length keys
    pub noted : (i : ℕ) (notes : List (Note S)) → slice_get kept i ≡ Some (Some notes) → AreNotes (pair_at keys i).1 (body_at G (pair_at keys i).0) (reverse notes)

  -- the same for each pair
  pub record AreKept (kept : List (Option (List (Note S)))) : Type 0 where
    pub rows : length kept ≡ length keys
    pub noted : (i : ℕ) (notes : List (Note S)) → slice_get kept i ≡ Some (Some notes) → AreNotes (pair_at keys i).1 (body_at G (pair_at keys i).0) (reverse notes)

-- what a run upward has found: the table of a run, and notes of its bodies
pub record IsRisen {S : Type 0} (A : Algebra S) (G : List Rule) (t : Risen S) : Type 0 where
  pub run : IsRun A G t.known
  pub noted : AreNoted A G (keys_in t.known) t.kept

-- what either list keeps, the first one where both do
abbrev pub either : {X : Type 0} → List (Option X) → List (Option X) → List (Option X)
either [] ys = ys
either (x ∷ xs) [] = x ∷ xs
either (Some x ∷ xs) (y ∷ ys) = Some x ∷ either xs ys
either (None ∷ xs) (y ∷ ys) = y ∷ either xs ys

-- the body of a pair is kept
abbrev pub HasBody : {S : Type 0} → List (Option (List (Note S))) → ℕ → Type 0
HasBody {S} kept i = (notes : List (Note S)) × (slice_get kept i ≡ Some (Some notes))

-- how many nodes the bodies have that are not kept yet
abbrev pub unread : {S : Type 0} → List Rule → List (RuleStates S) → List (Option (List (Note S))) → ℕ
unread G [] ms = 0
unread G (k ∷ ks) [] = length (body_at G k.0) + unread G ks []
unread G (k ∷ ks) (None ∷ ms) = length (body_at G k.0) + unread G ks ms
unread G (k ∷ ks) (Some notes ∷ ms) = unread G ks ms

-- the notes of each body, where they stand in one list with those of the others
abbrev pub kept_of : {S : Type 0} → List (Note S) → List (Option Span) → List (Option (List (Note S)))
kept_of notes spans = map (option_map (λ span. slice_range notes span.begin span.end)) spans

-- a body's notes stand among so many
abbrev pub IsWithin : ℕ → Option Span → Type 0
IsWithin count o = IfSome o (LiesWithin count)
