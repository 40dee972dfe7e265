-- One node of a body that is being rewritten, as the code reads it.
use Rattle.std.proofs.Common.{◌≡◌, ℕ, ◌-◌, ◌<◌, ◌≤◌, List, [], ◌∷◌, ◌++◌, length, take, reverse, Bool, true, Option, Some, slice_get, replicate, sym, ap, ◌∙◌, arith, subst}
use Rattle.rule_arena.specs.declared.label.Label.{Label}
use Rattle.rule_arena.specs.declared.label.Label.TheVariants.{Bottom, Call, Param}
use Rattle.slt_grammar.specs.Algebras.{Algebra}
use Rattle.slt_grammar.specs.Automata.{Downward}
use Rattle.slt_grammar.specs.Grammars.{IsGrammar, rank_at}
use Rattle.slt_grammar.specs.declared.automata.Fell.{Fell}
use Rattle.slt_grammar.specs.declared.rules.Rule.{Rule}
use Rattle.rule_runs.specs.Descents.{triple_at}
use Rattle.rule_runs.specs.Reached.{RuleStates, Falls}
use Rattle.rule_runs.specs.Risen.{pair_at}
use Rattle.rule_runs.specs.declared.notes.Note.{Note}
use Rattle.rule_runs.specs.declared.notes.Note.TheVariants.{Bottom as NoteBottom, Param as NoteParam, Symbol as NoteSymbol, Call as NoteCall}
use Rattle.rule_runs.proofs.Handing.{linear}
use Rattle.rule_runs.proofs.Lists.{reverse-push, reverse-last, slice_get-at}
use Rattle.bulk_rewrite.specs.declared.frame.Frame.{Frame}
use Rattle.bulk_rewrite.specs.Frames.{kept_label, symbol_label, HasHanded, Walks}
use Rattle.bulk_rewrite.specs.Rewriting.{Rewriting, IsLawful}
use Rattle.bulk_rewrite.proofs.Walking.{walk-open, walk-bottom, walk-param, walk-symbol, walk-meets, walk-lost, walk-call}

module _ {S D : Type 0} (A : Algebra S) (W : Downward S D) (G : List Rule) (R : Rewriting D) (ks : List (RuleStates S)) (ts : List (RuleStates S × D)) (f : Frame D) (ns : List (Note S)) (stands : Walks A W G R ks ts (pair_at ks f.spot.pair) f.spot.down (reverse (take f.left ns)) (reverse f.opened.items) f.body f.handed.items) (within : f.left ≤ length ns) (some : 0 < f.left) (n : Note S) (at : slice_get ns (f.left - 1) ≡ Some n) where
  abbrev key : RuleStates S
  key = pair_at ks f.spot.pair

  abbrev behind : List (Note S)
  behind = reverse (take (f.left - 1) ns)

  last : reverse (take f.left ns) ≡ n ∷ behind
  last = reverse-last ns f.left (f.left - 1) n (omega arith) within (sym (slice_get-at ns (f.left - 1) n n at).1)

  -- a term is open
  pub step-open : f.opened.items ≡ [] → ⊥
  step-open e = walk-open A W G R ks ts key f.spot.down n behind (reverse f.opened.items) f.body f.handed.items (rw last at stands) (ap reverse e)

  module _ (rest : List D) (d : D) (popped : f.opened.items ≡ rest ++ d ∷ []) where
    next : Walks A W G R ks ts key f.spot.down (n ∷ behind) (d ∷ reverse rest) f.body f.handed.items
    next = subst (λ ds. Walks A W G R ks ts key f.spot.down (n ∷ behind) ds f.body f.handed.items) (ap reverse popped ∙ reverse-push rest d) (rw last at stands)

    pub step-bottom : n ≡ NoteBottom → (l : Bool) (out : List Label) → l ≡ R.lost d → out ≡ f.body ++ kept_label l Bottom → Walks A W G R ks ts key f.spot.down behind (reverse rest) out f.handed.items
    step-bottom e l out el eo = rw (eo, el) (walk-bottom A W G R ks ts key f.spot.down behind (reverse rest) d f.body f.handed.items (rw e at next))

    pub step-param : n ≡ NoteParam → (l : Bool) (out : List Label) (met : List D) → l ≡ R.lost d → out ≡ f.body ++ kept_label l Param → met ≡ f.handed.items ++ d ∷ [] → Walks A W G R ks ts key f.spot.down behind (reverse rest) out met
    step-param e l out met el eo em = rw (eo, el, em) (walk-param A W G R ks ts key f.spot.down behind (reverse rest) d f.body f.handed.items (rw e at next))

    pub step-symbol : (s : ℕ) (kids after : S) → n ≡ NoteSymbol s kids after → (fell : Fell D) (o : Option ℕ) (out : List Label) (opened : List D) → fell ≡ W.step s d kids after → o ≡ R.becomes s d fell.hit → out ≡ f.body ++ symbol_label o
        → reverse opened ≡ fell.left ∷ fell.right ∷ reverse rest → Walks A W G R ks ts key f.spot.down behind (reverse opened) out f.handed.items
    step-symbol s kids after e fell o out opened ef eb eo ep = rw (eo, ep) (walk-symbol A W G R ks ts key f.spot.down s kids after behind (reverse rest) d f.body f.handed.items fell o (rw e at next) ef eb)

    pub step-meets : (i : ℕ) → n ≡ NoteCall i → Falls S D A W G (pair_at ks i).0 (pair_at ks i).1 d × (i < length ks) × ((pair_at ks i).0 < key.0)
    step-meets i e = walk-meets A W G R ks ts key f.spot.down i behind (reverse rest) d f.body f.handed.items (rw e at next)

    pub step-lost : IsGrammar G → IsLawful W R → (i : ℕ) → n ≡ NoteCall i → (rank : ℕ) (opened : List D) → R.lost d ≡ true → rank ≡ rank_at G (pair_at ks i).0 → reverse opened ≡ replicate rank d ++ reverse rest → Walks A W G R ks ts key f.spot.down behind (reverse opened) f.body f.handed.items
    step-lost g law i e rank opened l er ep = rw (ep, er) (walk-lost A W G R ks ts key f.spot.down (linear G g) law i behind (reverse rest) d f.body f.handed.items (rw e at next) l)

    pub step-call : IsGrammar G → (i place : ℕ) → n ≡ NoteCall i → (hands opened : List D) (out : List Label) → HasHanded A W G R ks (record { pair = i; down = d }) hands → slice_get ts place ≡ Some (triple_at ks (record { pair = i; down = d }))
        → out ≡ f.body ++ Call place ∷ [] → reverse opened ≡ hands ++ reverse rest → Walks A W G R ks ts key f.spot.down behind (reverse opened) out f.handed.items
    step-call g i place e hands opened out h there eo ep = rw (eo, ep) (walk-call A W G R ks ts key f.spot.down (linear G g) i place behind (reverse rest) d f.body f.handed.items hands (rw e at next) h there)

    pub step-waits : (i : ℕ) → n ≡ NoteCall i → Walks A W G R ks ts key f.spot.down (NoteCall i ∷ behind) (d ∷ reverse rest) f.body f.handed.items
    step-waits i e = rw e at next
