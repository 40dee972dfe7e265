-- The notes of a body, by its labels.
use Rattle.std.proofs.Common.{◌≡◌, ◌≢◌, ℕ, suc, List, [], ◌∷◌, length, get_or, take, drop, reverse, Some, slice_get, refl, sym, ap, ◌∙◌, AllPairs}
use Rattle.std.proofs.lemmas.List.{reverse-reverse}
use Rattle.rule_arena.specs.declared.label.Label.{Label}
use Rattle.rule_arena.specs.declared.label.Label.TheVariants.{Bottom, Symbol, Call, Param}
use Rattle.slt_grammar.specs.Algebras.{Algebra, ranks_of}
use Rattle.rule_runs.specs.Reached.{RuleStates, states_of}
use Rattle.slt_grammar.specs.declared.rules.Rule.{Rule}
use Rattle.rule_runs.specs.declared.notes.Note.{Note}
use Rattle.rule_runs.specs.declared.notes.Note.TheVariants.{Bottom as NoteBottom, Param as NoteParam, Symbol as NoteSymbol, Call as NoteCall}
use Rattle.rule_runs.specs.Notes.{NoteIs, AreNotes}
use Rattle.rule_runs.proofs.Lists.{one-place, slice_get-at}

module _ {S : Type 0} (A : Algebra S) (G : List Rule) (ks : List (RuleStates S)) (args : List S) where
  pub note-bottom : (ls : List Label) (ns : List (Note S)) → AreNotes A G ks args ls (NoteBottom ∷ ns) → (rest : List Label) × (ls ≡ Bottom ∷ rest) × AreNotes A G ks args rest ns
  note-bottom [] ns o = absurd o
  note-bottom (Bottom ∷ ls) ns o = (ls, refl, o.1)
  note-bottom (Symbol f ∷ ls) ns o = absurd o.0
  note-bottom (Call q ∷ ls) ns o = absurd o.0
  note-bottom (Param ∷ ls) ns o = let e = o.0 in absurd (cc)

  pub note-param : (ls : List Label) (ns : List (Note S)) → AreNotes A G ks args ls (NoteParam ∷ ns) → (rest : List Label) × (ls ≡ Param ∷ rest) × AreNotes A G ks (drop 1 args) rest ns
  note-param [] ns o = absurd o
  note-param (Bottom ∷ ls) ns o = absurd o.0
  note-param (Symbol f ∷ ls) ns o = absurd o.0
  note-param (Call q ∷ ls) ns o = absurd o.0
  note-param (Param ∷ ls) ns o = (ls, refl, o.1)

  pub note-symbol : (ls : List Label) (f : ℕ) (kids rest : S) (ns : List (Note S)) → AreNotes A G ks args ls (NoteSymbol f kids rest ∷ ns)
      → (behind : List Label) × (ls ≡ Symbol f ∷ behind) × (kids ≡ get_or (states_of A G args behind) 0 A.bottom) × (rest ≡ get_or (states_of A G args behind) 1 A.bottom) × AreNotes A G ks args behind ns
  note-symbol [] f kids rest ns o = absurd o
  note-symbol (Bottom ∷ ls) f kids rest ns o = absurd o.0
  note-symbol (Symbol g ∷ ls) f kids rest ns o = (ls, ap (λ x. Symbol x ∷ ls) (sym o.0.0), o.0.1, o.0.2, o.1)
  note-symbol (Call q ∷ ls) f kids rest ns o = absurd o.0
  note-symbol (Param ∷ ls) f kids rest ns o = let e = o.0 in absurd (cc)

  pub note-call : (ls : List Label) (i : ℕ) (ns : List (Note S)) → AreNotes A G ks args ls (NoteCall i ∷ ns)
      → (q : ℕ) × (behind : List Label) × (ls ≡ Call q ∷ behind) × (slice_get ks i ≡ Some (q, take (get_or (ranks_of G) q 0) (states_of A G args behind))) × AreNotes A G ks args behind ns
  note-call [] i ns o = absurd o
  note-call (Bottom ∷ ls) i ns o = absurd o.0
  note-call (Symbol g ∷ ls) i ns o = absurd o.0
  note-call (Call q ∷ ls) i ns o = (q, ls, refl, o.0, o.1)
  note-call (Param ∷ ls) i ns o = let e = o.0 in absurd (cc)

  pub note-some : (ls : List Label) (n : Note S) (ns : List (Note S)) → AreNotes A G ks args ls (n ∷ ns) → (l : Label) × (rest : List Label) × (ls ≡ l ∷ rest)
  note-some [] n ns o = absurd o
  note-some (l ∷ ls) n ns o = (l, ls, refl)

  pub note-none : (ls : List Label) → AreNotes A G ks args ls [] → ls ≡ []
  note-none [] o = refl
  note-none (l ∷ ls) o = absurd o

pub notes-length : {S : Type 0} (A : Algebra S) (G : List Rule) (ks : List (RuleStates S)) (args : List S) (ls : List Label) (ns : List (Note S)) → AreNotes A G ks args ls ns → length ns ≡ length ls
notes-length A G ks args [] [] o = refl
notes-length A G ks args [] (n ∷ ns) o = absurd o
notes-length A G ks args (l ∷ ls) [] o = absurd o
notes-length A G ks args (Param ∷ ls) (n ∷ ns) o = ap suc (notes-length A G ks (drop 1 args) ls ns o.1)
notes-length A G ks args (Bottom ∷ ls) (n ∷ ns) o = ap suc (notes-length A G ks args ls ns o.1)
notes-length A G ks args (Symbol f ∷ ls) (n ∷ ns) o = ap suc (notes-length A G ks args ls ns o.1)
notes-length A G ks args (Call q ∷ ls) (n ∷ ns) o = ap suc (notes-length A G ks args ls ns o.1)

-- the notes of a body are given by the table
module _ {S : Type 0} (A : Algebra S) (G : List Rule) (ks : List (RuleStates S)) (distinct : AllPairs (λ p q. p ≢ q) ks) where
  one-note : (l : Label) (states : List S) (n m : Note S) → NoteIs A G ks l states n → NoteIs A G ks l states m → n ≡ m
  one-note Bottom states NoteBottom NoteBottom a b = refl
  one-note Bottom states NoteBottom NoteParam a b = absurd b
  one-note Bottom states NoteBottom (NoteSymbol f x y) a b = absurd b
  one-note Bottom states NoteBottom (NoteCall i) a b = absurd b
  one-note Bottom states NoteParam m a b = absurd a
  one-note Bottom states (NoteSymbol f x y) m a b = absurd a
  one-note Bottom states (NoteCall i) m a b = absurd a
  one-note (Symbol g) states NoteBottom m a b = absurd a
  one-note (Symbol g) states NoteParam m a b = absurd a
  one-note (Symbol g) states (NoteCall i) m a b = absurd a
  one-note (Symbol g) states (NoteSymbol f x y) NoteBottom a b = absurd b
  one-note (Symbol g) states (NoteSymbol f x y) NoteParam a b = absurd b
  one-note (Symbol g) states (NoteSymbol f x y) (NoteCall i) a b = absurd b
  one-note (Symbol g) states (NoteSymbol f x y) (NoteSymbol h u v) a b = ap (λ z. NoteSymbol z x y) (a.0 ∙ sym b.0) ∙ ap (λ z. NoteSymbol h z y) (a.1 ∙ sym b.1) ∙ ap (λ z. NoteSymbol h u z) (a.2 ∙ sym b.2)
  one-note (Call q) states NoteBottom m a b = absurd a
  one-note (Call q) states NoteParam m a b = absurd a
  one-note (Call q) states (NoteSymbol f x y) m a b = absurd a
  one-note (Call q) states (NoteCall i) NoteBottom a b = absurd b
  one-note (Call q) states (NoteCall i) NoteParam a b = absurd b
  one-note (Call q) states (NoteCall i) (NoteSymbol f x y) a b = absurd b
  one-note (Call q) states (NoteCall i) (NoteCall j) a b =
      let k : RuleStates S = (q, take (get_or (ranks_of G) q 0) states) in
      let s = slice_get-at ks i k k a in
      let t = slice_get-at ks j k k b in
      ap (λ z. NoteCall z) (one-place ks i j k distinct s.0 t.0 (s.1 ∙ sym t.1))
  one-note Param states n m a b = absurd a

  same-notes : (args : List S) (ls : List Label) (ns ms : List (Note S)) → AreNotes A G ks args ls ns → AreNotes A G ks args ls ms → ns ≡ ms
  same-notes args [] [] [] a b = refl
  same-notes args [] [] (m ∷ ms) a b = absurd b
  same-notes args [] (n ∷ ns) ms a b = absurd a
  same-notes args (l ∷ ls) [] ms a b = absurd a
  same-notes args (l ∷ ls) (n ∷ ns) [] a b = absurd b
  same-notes args (Param ∷ ls) (n ∷ ns) (m ∷ ms) a b = ap (λ x. x ∷ ns) (a.0 ∙ sym b.0) ∙ ap (λ xs. m ∷ xs) (same-notes (drop 1 args) ls ns ms a.1 b.1)
  same-notes args (Bottom ∷ ls) (n ∷ ns) (m ∷ ms) a b = ap (λ x. x ∷ ns) (one-note Bottom (states_of A G args ls) n m a.0 b.0) ∙ ap (λ xs. m ∷ xs) (same-notes args ls ns ms a.1 b.1)
  same-notes args (Symbol f ∷ ls) (n ∷ ns) (m ∷ ms) a b = ap (λ x. x ∷ ns) (one-note (Symbol f) (states_of A G args ls) n m a.0 b.0) ∙ ap (λ xs. m ∷ xs) (same-notes args ls ns ms a.1 b.1)
  same-notes args (Call q ∷ ls) (n ∷ ns) (m ∷ ms) a b = ap (λ x. x ∷ ns) (one-note (Call q) (states_of A G args ls) n m a.0 b.0) ∙ ap (λ xs. m ∷ xs) (same-notes args ls ns ms a.1 b.1)

  -- told from their end too
  pub same-reversed : (args : List S) (ls : List Label) (ns ms : List (Note S)) → AreNotes A G ks args ls (reverse ns) → AreNotes A G ks args ls (reverse ms) → ns ≡ ms
  same-reversed args ls ns ms a b = sym (reverse-reverse ns) ∙ ap reverse (same-notes args ls (reverse ns) (reverse ms) a b) ∙ reverse-reverse ms
