-- The rules that are made of triples are a grammar, and no larger than those that they come from.
use Rattle.std.proofs.Common.{◌≡◌, ℕ, zero, suc, ◌+◌, ◌≤◌, List, [], ◌∷◌, ◌++◌, length, get_or, drop, Bool, true, false, Option, Some, None, slice_get, refl, ap, sym, ◌∙◌, arith, length-append, zero-add, subst}
use Rattle.std.proofs.lemmas.Option.{slice_get_within}
use Rattle.rule_arena.specs.Preorder.{AreTerms}
use Rattle.rule_arena.specs.declared.label.Label.{Label}
use Rattle.rule_arena.specs.declared.label.Label.TheVariants.{Bottom, Symbol, Call, Param}
use Rattle.slt_grammar.specs.Algebras.{Algebra, ranks_of}
use Rattle.slt_grammar.specs.Automata.{Downward, handed}
use Rattle.slt_grammar.specs.Bodies.{arity, params, real_nodes, CallsBelow}
use Rattle.slt_grammar.specs.Terms.{holes_of}
use Rattle.slt_grammar.specs.Grammars.{value_at}
use Rattle.slt_grammar.specs.declared.automata.Fell.{Fell}
use Rattle.slt_grammar.specs.declared.rules.Rule.{Rule}
use Rattle.rule_runs.specs.Reached.{RuleStates, states_of}
use Rattle.rule_runs.specs.Walks.{kids_of, param_downs}
use Rattle.rule_runs.proofs.Handing.{IsLinear}
use Rattle.bulk_rewrite.specs.Rewriting.{Rewriting, IsLawful, unless, kept_count}
use Rattle.bulk_rewrite.specs.Making.{Made, MadeBottom, MadeParam, MadeCall, named, making, IsNamed, AreNamed}
use Rattle.bulk_rewrite.proofs.Kept.{kept_count-append, kept_count-lost, lost-handed, length-handed-call}

-- what is named in front of labels is lost, or one label in front
pub named-unless : {S D : Type 0} (ts : List (RuleStates S × D)) (P : List Label → Type 0) (b : Bool) (m : Made S D) (ms : List (Made S D)) (ls : List Label) → AreNamed ts (unless b m ms) ls
    → (b ≡ true → AreNamed ts ms ls → P ls) → ((l : Label) (rest : List Label) → b ≡ false → IsNamed ts m l → AreNamed ts ms rest → P (l ∷ rest)) → P ls
named-unless ts P true m ms ls n lost here = lost refl n
named-unless ts P false m ms [] n lost here = absurd n
named-unless ts P false m ms (l ∷ ls) n lost here = here l ls refl n.0 n.1

pub named-symbol : {S D : Type 0} (ts : List (RuleStates S × D)) (P : List Label → Type 0) (o : Option ℕ) (ms : List (Made S D)) (ls : List Label) → AreNamed ts (named o ms) ls
    → (o ≡ None → AreNamed ts ms ls → P ls) → ((f : ℕ) (rest : List Label) → o ≡ Some f → AreNamed ts ms rest → P (Symbol f ∷ rest)) → P ls
named-symbol ts P None ms ls n out here = out refl n
named-symbol ts P (Some f) ms [] n out here = absurd n
named-symbol ts P (Some f) ms (l ∷ ls) n out here = rw n.0 (here f ls refl n.1)

pub not-lost : {S D : Type 0} (W : Downward S D) (R : Rewriting D) → IsLawful W R → (f g : ℕ) (d : D) (hit b : Bool) → R.becomes f d hit ≡ Some g → R.lost d ≡ b → b ≡ false
not-lost W R law f g d hit true e l = let o : R.becomes f d hit ≡ None = law.out f d hit l in absurd (cc)
not-lost W R law f g d hit false e l = refl

module _ {S D : Type 0} (A : Algebra S) (W : Downward S D) (G : List Rule) (lin : IsLinear G) (R : Rewriting D) (law : IsLawful W R) (ts : List (RuleStates S × D)) where
  -- a symbol's children are kept as it is
  pub count-symbol : (f : ℕ) (d : D) (k r : S) (ds : List D) (o : Option ℕ) (b : Bool) → R.becomes f d (W.step f d k r).hit ≡ o → R.lost d ≡ b
      → (o ≡ None → kept_count R ((W.step f d k r).left ∷ (W.step f d k r).right ∷ ds) ≡ kept_count R (d ∷ ds)) × ((g : ℕ) → o ≡ Some g → kept_count R ((W.step f d k r).left ∷ (W.step f d k r).right ∷ ds) ≡ suc (kept_count R (d ∷ ds)))
  count-symbol f d k r ds None true e l = (λ n. rw (law.lost_left f d k r l, law.lost_right f d k r l, l) refl, λ g n. absurd (cc))
  count-symbol f d k r ds None false e l = (λ n. rw (law.taken f d k r e, law.behind f d k r l, l) refl, λ g n. absurd (cc))
  count-symbol f d k r ds (Some g) b e l =
      let z : b ≡ false = not-lost W R law f g d _ b e l in
      let y : R.lost d ≡ false = l ∙ z in
      (λ n. absurd (cc), λ h n. rw (law.kept f g d k r e, law.behind f d k r y, y) refl)

  -- of a lost call nothing is kept
  pub count-lost-call : (q : ℕ) (kids : List S) (d : D) (ds : List D) → R.lost d ≡ true → kept_count R (handed A W (value_at G q) kids d ++ ds) ≡ kept_count R (d ∷ ds)
  count-lost-call q kids d ds l =
      rw (l, kept_count-append R (handed A W (value_at G q) kids d) ds, lost-handed A W R law kids d l (value_at G q), kept_count-lost R d l (holes_of (value_at G q))) (zero-add (kept_count R ds))

  module _ (ranks : List ℕ) (known : (i : ℕ) (k : RuleStates S) (d : D) → slice_get ts i ≡ Some (k, d) → get_or ranks i 0 ≡ kept_count R (handed A W (value_at G k.0) k.1 d)) where
    -- the labels that are made of terms are as many terms as are kept
    pub made-terms : (n : ℕ) (ls : List Label) (args : List S) (ds : List D) (out : List Label) → AreTerms (arity (ranks_of G)) n ls → length ds ≡ n → AreNamed ts (making A W G R args ds ls) out → AreTerms (arity ranks) (kept_count R ds) out
    made-terms n [] args [] [] t e m = tt
    made-terms n [] args [] (o ∷ out) t e m = absurd m
    made-terms zero [] args (d ∷ ds) out t e m = absurd (omega arith)
    made-terms (suc n) [] args ds out t e m = absurd t
    made-terms zero (l ∷ ls) args ds out t e m = absurd t
    made-terms (suc n) (l ∷ ls) args [] out t e m = absurd (omega arith)
    made-terms (suc n) (Param ∷ ls) args (d ∷ ds) out t e m =
        let P : List Label → Type 0 = AreTerms (arity ranks) (kept_count R (d ∷ ds)) in
        named-unless ts P (R.lost d) MadeParam (making A W G R (drop 1 args) ds ls) out m
        (λ l k. rw l (made-terms (0 + n) ls (drop 1 args) ds out t (omega arith) k))
        (λ p rest l i k. rw (l, i) (subst (λ x. AreTerms (arity ranks) x rest) (sym (zero-add (kept_count R ds))) (made-terms (0 + n) ls (drop 1 args) ds rest t (omega arith) k)))
    made-terms (suc n) (Bottom ∷ ls) args (d ∷ ds) out t e m =
        let P : List Label → Type 0 = AreTerms (arity ranks) (kept_count R (d ∷ ds)) in
        named-unless ts P (R.lost d) MadeBottom (making A W G R args ds ls) out m
        (λ l k. rw l (made-terms (0 + n) ls args ds out t (omega arith) k))
        (λ p rest l i k. rw (l, i) (subst (λ x. AreTerms (arity ranks) x rest) (sym (zero-add (kept_count R ds))) (made-terms (0 + n) ls args ds rest t (omega arith) k)))
    made-terms (suc n) (Symbol f ∷ ls) args (d ∷ ds) out t e m =
        let P : List Label → Type 0 = AreTerms (arity ranks) (kept_count R (d ∷ ds)) in
        let kids : List S = states_of A G args ls in
        let k : S = get_or kids 0 A.bottom in
        let r : S = get_or kids 1 A.bottom in
        let s : Fell D = W.step f d k r in
        let c = count-symbol f d k r ds (R.becomes f d s.hit) (R.lost d) refl refl in
        named-symbol ts P (R.becomes f d s.hit) (making A W G R args (s.left ∷ s.right ∷ ds) ls) out m
        (λ o h. subst (λ x. AreTerms (arity ranks) x out) (c.0 o) (made-terms (2 + n) ls args (s.left ∷ s.right ∷ ds) out t (omega arith) h))
        (λ g rest o h.
        let y : R.lost d ≡ false = not-lost W R law f g d s.hit (R.lost d) o refl in
        let z : kept_count R (s.left ∷ s.right ∷ ds) ≡ 2 + kept_count R ds = c.1 g o ∙ rw y (omega arith) in
        rw y (subst (λ x. AreTerms (arity ranks) x rest) z (made-terms (2 + n) ls args (s.left ∷ s.right ∷ ds) rest t (omega arith) h)))
    made-terms (suc n) (Call q ∷ ls) args (d ∷ ds) out t e m =
        let P : List Label → Type 0 = AreTerms (arity ranks) (kept_count R (d ∷ ds)) in
        let kids : List S = kids_of A W G q args ls in
        let hs : List D = handed A W (value_at G q) kids d in
        let len : length (hs ++ ds) ≡ get_or (ranks_of G) q 0 + n = omega (arith, length-append hs ds, length-handed-call A W G lin q kids d) in
        named-unless ts P (R.lost d) (MadeCall (q, kids) d) (making A W G R args (hs ++ ds) ls) out m
        (λ l h. subst (λ x. AreTerms (arity ranks) x out) (count-lost-call q kids d ds l) (made-terms (get_or (ranks_of G) q 0 + n) ls args (hs ++ ds) out t len h))
        (λ p rest l i h. rw (i.1, l) (subst (λ x. AreTerms (arity ranks) (x + kept_count R ds) rest) (sym (known i.0 (q, kids) d i.2)) (subst (λ x. AreTerms (arity ranks) x rest) (kept_count-append R hs ds) (made-terms (get_or (ranks_of G) q 0 + n) ls args (hs ++ ds) rest t len h))))

  -- they have the parameters that are kept
  pub made-params : (n : ℕ) (ls : List Label) (args : List S) (ds : List D) (out : List Label) → AreTerms (arity (ranks_of G)) n ls → length ds ≡ n → AreNamed ts (making A W G R args ds ls) out → params out ≡ kept_count R (param_downs A W G args ds ls)
  made-params n [] args ds [] t e m = refl
  made-params n [] args ds (o ∷ out) t e m = absurd m
  made-params zero (l ∷ ls) args ds out t e m = absurd t
  made-params (suc n) (l ∷ ls) args [] out t e m = absurd (omega arith)
  made-params (suc n) (Param ∷ ls) args (d ∷ ds) out t e m =
      let P : List Label → Type 0 = λ o. params o ≡ kept_count R (d ∷ param_downs A W G (drop 1 args) ds ls) in
      named-unless ts P (R.lost d) MadeParam (making A W G R (drop 1 args) ds ls) out m
      (λ l k. rw l (made-params (0 + n) ls (drop 1 args) ds out t (omega arith) k))
      (λ p rest l i k. rw (l, i) (ap suc (made-params (0 + n) ls (drop 1 args) ds rest t (omega arith) k)))
  made-params (suc n) (Bottom ∷ ls) args (d ∷ ds) out t e m =
      let P : List Label → Type 0 = λ o. params o ≡ kept_count R (param_downs A W G args ds ls) in
      named-unless ts P (R.lost d) MadeBottom (making A W G R args ds ls) out m
      (λ l k. made-params (0 + n) ls args ds out t (omega arith) k)
      (λ p rest l i k. rw i (made-params (0 + n) ls args ds rest t (omega arith) k))
  made-params (suc n) (Symbol f ∷ ls) args (d ∷ ds) out t e m =
      let kids : List S = states_of A G args ls in
      let s : Fell D = W.step f d (get_or kids 0 A.bottom) (get_or kids 1 A.bottom) in
      let P : List Label → Type 0 = λ o. params o ≡ kept_count R (param_downs A W G args (s.left ∷ s.right ∷ ds) ls) in
      named-symbol ts P (R.becomes f d s.hit) (making A W G R args (s.left ∷ s.right ∷ ds) ls) out m
      (λ o h. made-params (2 + n) ls args (s.left ∷ s.right ∷ ds) out t (omega arith) h)
      (λ g rest o h. made-params (2 + n) ls args (s.left ∷ s.right ∷ ds) rest t (omega arith) h)
  made-params (suc n) (Call q ∷ ls) args (d ∷ ds) out t e m =
      let kids : List S = kids_of A W G q args ls in
      let hs : List D = handed A W (value_at G q) kids d in
      let len : length (hs ++ ds) ≡ get_or (ranks_of G) q 0 + n = omega (arith, length-append hs ds, length-handed-call A W G lin q kids d) in
      let P : List Label → Type 0 = λ o. params o ≡ kept_count R (param_downs A W G args (hs ++ ds) ls) in
      named-unless ts P (R.lost d) (MadeCall (q, kids) d) (making A W G R args (hs ++ ds) ls) out m
      (λ l h. made-params (get_or (ranks_of G) q 0 + n) ls args (hs ++ ds) out t len h)
      (λ p rest l i h. rw i.1 (made-params (get_or (ranks_of G) q 0 + n) ls args (hs ++ ds) rest t len h))

  -- they call rules of triples
  pub made-calls : (ls : List Label) (args : List S) (ds : List D) (out : List Label) → AreNamed ts (making A W G R args ds ls) out → CallsBelow (length ts) out
  made-calls [] args ds [] m = tt
  made-calls [] args ds (o ∷ out) m = absurd m
  made-calls (Param ∷ ls) args ds out m =
      named-unless ts (CallsBelow (length ts)) (R.lost (get_or ds 0 W.start)) MadeParam (making A W G R (drop 1 args) (drop 1 ds) ls) out m
      (λ l k. made-calls ls (drop 1 args) (drop 1 ds) out k) (λ p rest l i k. rw i (made-calls ls (drop 1 args) (drop 1 ds) rest k))
  made-calls (Bottom ∷ ls) args ds out m =
      named-unless ts (CallsBelow (length ts)) (R.lost (get_or ds 0 W.start)) MadeBottom (making A W G R args (drop 1 ds) ls) out m
      (λ l k. made-calls ls args (drop 1 ds) out k) (λ p rest l i k. rw i (made-calls ls args (drop 1 ds) rest k))
  made-calls (Symbol f ∷ ls) args ds out m =
      let kids : List S = states_of A G args ls in
      let s : Fell D = W.step f (get_or ds 0 W.start) (get_or kids 0 A.bottom) (get_or kids 1 A.bottom) in
      named-symbol ts (CallsBelow (length ts)) (R.becomes f (get_or ds 0 W.start) s.hit) (making A W G R args (s.left ∷ s.right ∷ drop 1 ds) ls) out m
      (λ o h. made-calls ls args (s.left ∷ s.right ∷ drop 1 ds) out h) (λ g rest o h. made-calls ls args (s.left ∷ s.right ∷ drop 1 ds) rest h)
  made-calls (Call q ∷ ls) args ds out m =
      let d : D = get_or ds 0 W.start in
      let kids : List S = kids_of A W G q args ls in
      let hs : List D = handed A W (value_at G q) kids d in
      named-unless ts (CallsBelow (length ts)) (R.lost d) (MadeCall (q, kids) d) (making A W G R args (hs ++ drop 1 ds) ls) out m
      (λ l h. made-calls ls args (hs ++ drop 1 ds) out h)
      (λ p rest l i h. rw i.1 (slice_get_within ts i.0 ((q, kids), d) i.2, made-calls ls args (hs ++ drop 1 ds) rest h))

module _ {S D : Type 0} (A : Algebra S) (W : Downward S D) (G : List Rule) (R : Rewriting D) (ts : List (RuleStates S × D)) where
  -- the labels that are made are no more than those that they come from
  pub made-few : (ls : List Label) (args : List S) (ds : List D) (out : List Label) → AreNamed ts (making A W G R args ds ls) out → (length out ≤ length ls) × (real_nodes out ≤ real_nodes ls)
  made-few [] args ds [] m = (omega arith, omega arith)
  made-few [] args ds (o ∷ out) m = absurd m
  made-few (Param ∷ ls) args ds out m =
      let P : List Label → Type 0 = λ o. (length o ≤ suc (length ls)) × (real_nodes o ≤ real_nodes ls) in
      named-unless ts P (R.lost (get_or ds 0 W.start)) MadeParam (making A W G R (drop 1 args) (drop 1 ds) ls) out m
      (λ l k. let f = made-few ls (drop 1 args) (drop 1 ds) out k in (omega (arith, f.0), f.1)) (λ p rest l i k. let f = made-few ls (drop 1 args) (drop 1 ds) rest k in rw i (omega (arith, f.0), f.1))
  made-few (Bottom ∷ ls) args ds out m =
      let P : List Label → Type 0 = λ o. (length o ≤ suc (length ls)) × (real_nodes o ≤ suc (real_nodes ls)) in
      named-unless ts P (R.lost (get_or ds 0 W.start)) MadeBottom (making A W G R args (drop 1 ds) ls) out m
      (λ l k. let f = made-few ls args (drop 1 ds) out k in (omega (arith, f.0), omega (arith, f.1))) (λ p rest l i k. let f = made-few ls args (drop 1 ds) rest k in rw i (omega (arith, f.0), omega (arith, f.1)))
  made-few (Symbol f ∷ ls) args ds out m =
      let P : List Label → Type 0 = λ o. (length o ≤ suc (length ls)) × (real_nodes o ≤ suc (real_nodes ls)) in
      let kids : List S = states_of A G args ls in
      let s : Fell D = W.step f (get_or ds 0 W.start) (get_or kids 0 A.bottom) (get_or kids 1 A.bottom) in
      named-symbol ts P (R.becomes f (get_or ds 0 W.start) s.hit) (making A W G R args (s.left ∷ s.right ∷ drop 1 ds) ls) out m
      (λ o h. let w = made-few ls args (s.left ∷ s.right ∷ drop 1 ds) out h in (omega (arith, w.0), omega (arith, w.1))) (λ g rest o h. let w = made-few ls args (s.left ∷ s.right ∷ drop 1 ds) rest h in (omega (arith, w.0), omega (arith, w.1)))
  made-few (Call q ∷ ls) args ds out m =
      let P : List Label → Type 0 = λ o. (length o ≤ suc (length ls)) × (real_nodes o ≤ suc (real_nodes ls)) in
      let d : D = get_or ds 0 W.start in
      let kids : List S = kids_of A W G q args ls in
      let hs : List D = handed A W (value_at G q) kids d in
      named-unless ts P (R.lost d) (MadeCall (q, kids) d) (making A W G R args (hs ++ drop 1 ds) ls) out m
      (λ l h. let w = made-few ls args (hs ++ drop 1 ds) out h in (omega (arith, w.0), omega (arith, w.1)))
      (λ p rest l i h. let w = made-few ls args (hs ++ drop 1 ds) rest h in rw i.1 (omega (arith, w.0), omega (arith, w.1)))
