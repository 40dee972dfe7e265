-- Bodies that are kept in the order in which their pairs come to the table.
use Rattle.std.proofs.Common.{◌≡◌, ℕ, zero, suc, ◌-◌, List, [], ◌∷◌, ◌++◌, length, reverse, Option, Some, slice_get, Bool, true, false, IsTrue, IsFalse, inl, inr, refl, sym, ap, ◌∙◌, arith, subst}
use Rattle.std.proofs.Math.Seq.{get_or-append_seam}
use Rattle.std.proofs.lemmas.List.{length-append, get_or_append_left, reverse-reverse}
use Rattle.std.proofs.lemmas.Option.{slice_get_within}
use Rattle.rule_arena.proofs.ListLemmas.{get-append}
use Rattle.slt_grammar.specs.Algebras.{Algebra}
use Rattle.slt_grammar.specs.Grammars.{body_at}
use Rattle.slt_grammar.specs.declared.rules.Rule.{Rule}
use Rattle.rule_runs.specs.Reached.{RuleStates}
use Rattle.rule_runs.specs.Risen.{pair_at}
use Rattle.rule_runs.specs.Notes.{AreNotes, AreNoted}
use Rattle.rule_runs.specs.declared.notes.Note.{Note}
use Rattle.rule_runs.proofs.Noting.{notes-more}

only : {X : Type 0} (x : X) (j : ℕ) (y : X) → slice_get (x ∷ []) j ≡ Some y → (j ≡ 0) × (x ≡ y)
only x zero y e = let q : x ≡ y = cc in (refl, q)
only x (suc j) y e = absurd (cc)

module _ {S : Type 0} (A : Algebra S) (G : List Rule) where
  -- a pair more changes no body that is noted
  noted-still : (ks : List (RuleStates S)) (k : RuleStates S) (kept : List (Option (List (Note S)))) → AreNoted A G ks kept → (i : ℕ) (ns : List (Note S)) → slice_get kept i ≡ Some (Some ns)
      → AreNotes A G (ks ++ k ∷ []) (pair_at (ks ++ k ∷ []) i).1 (body_at G (pair_at (ks ++ k ∷ []) i).0) (reverse ns)
  noted-still ks k kept h i ns e =
      let p : pair_at (ks ++ k ∷ []) i ≡ pair_at ks i = get_or_append_left ks (k ∷ []) (0, []) i (omega (arith, slice_get_within kept i (Some ns) e, h.within)) in
      let m = notes-more A G ks (k ∷ []) (pair_at ks i).1 (body_at G (pair_at ks i).0) (reverse ns) (h.noted i ns e) in
      subst (λ (x : RuleStates S). AreNotes A G (ks ++ k ∷ []) x.1 (body_at G x.0) (reverse ns)) (sym p) m

  -- and the last pair's body is noted where it is kept
  noted-last : (ks : List (RuleStates S)) (k : RuleStates S) (notes : List (Note S)) → AreNotes A G ks k.1 (body_at G k.0) notes → (i : ℕ) (ns : List (Note S)) → i ≡ length ks → reverse notes ≡ ns
      → AreNotes A G (ks ++ k ∷ []) (pair_at (ks ++ k ∷ []) i).1 (body_at G (pair_at (ks ++ k ∷ []) i).0) (reverse ns)
  noted-last ks k notes n i ns is same =
      let p : pair_at (ks ++ k ∷ []) i ≡ k = ap (pair_at (ks ++ k ∷ [])) is ∙ get_or-append_seam ks k [] (0, []) in
      let r : notes ≡ reverse ns = sym (reverse-reverse notes) ∙ ap reverse same in
      let m : AreNotes A G (ks ++ k ∷ []) k.1 (body_at G k.0) (reverse ns) = subst (AreNotes A G (ks ++ k ∷ []) k.1 (body_at G k.0)) r (notes-more A G ks (k ∷ []) k.1 (body_at G k.0) notes n) in
      subst (λ (x : RuleStates S). AreNotes A G (ks ++ k ∷ []) x.1 (body_at G x.0) (reverse ns)) (sym p) m

  -- no body is kept of pairs that were not read
  pub noted-none : (ks : List (RuleStates S)) → AreNoted A G ks []
  noted-none ks = record { within = omega arith; noted = λ i ns e. absurd (cc) }

  -- the bodies that a run keeps on its way: of each pair where notes are made
  pub record Keeps (noted : Bool) (ks : List (RuleStates S)) (kept : List (Option (List (Note S)))) : Type 0 where
    pub are : AreNoted A G ks kept
    pub rows : IsTrue noted → length kept ≡ length ks

  pub keeps-none : (noted : Bool) → Keeps noted [] []
  keeps-none noted = record { are = noted-none []; rows = λ t. refl }

  pub keeps-return : (noted : Bool) (ks : List (RuleStates S)) (k : RuleStates S) (kept new : List (Option (List (Note S)))) (notes : List (Note S)) → Keeps noted ks kept
      → (IsTrue noted → AreNotes A G ks k.1 (body_at G k.0) notes) → (IsTrue noted → new ≡ kept ++ Some (reverse notes) ∷ []) → (IsFalse noted → new ≡ kept) → Keeps noted (ks ++ k ∷ []) new
  keeps-return false ks k kept new notes h n is stays =
      subst (Keeps false (ks ++ k ∷ [])) (sym (stays refl)) (record {
        are = record { within = omega (arith, h.are.within, length-append ks (k ∷ [])); noted = noted-still ks k kept h.are };
        rows = λ t. absurd (cc);
      })
  keeps-return true ks k kept new notes h n is stays =
      let rows = h.rows refl in
      let count : length (kept ++ Some (reverse notes) ∷ []) ≡ length (ks ++ k ∷ []) = omega (arith, length-append kept (Some (reverse notes) ∷ []), length-append ks (k ∷ []), rows) in
      subst (Keeps true (ks ++ k ∷ [])) (sym (is refl)) (record {
        are = record {
          within = omega (arith, count);
          noted = λ i ns e. elim (get-append kept (Some (reverse notes) ∷ []) i (Some ns) e) [
            | inl w ↦ noted-still ks k kept h.are i ns w.1
            | inr w ↦ let o = only (Some (reverse notes)) (i - length kept) (Some ns) w.1 in
                let same : reverse notes ≡ ns = (let q = o.1 in cc) in
                noted-last ks k notes (n refl) i ns (omega (arith, w.0, o.0, rows)) same
          ];
        };
        rows = λ t. count;
      })
