-- Bodies rewritten from their root, node by node.
use Rattle.std.proofs.Common.{◌≡◌, ℕ, suc, ◌+◌, ◌<◌, List, [], ◌∷◌, ◌++◌, length, get_or, take, drop, map, Bool, true, false, Option, Some, None, slice_get, replicate, refl, sym, ap, ◌∙◌, arith, append_assoc, append-nil, length-append, zero-add, subst}
use Rattle.rule_arena.specs.Preorder.{AreTerms}
use Rattle.rule_arena.specs.declared.label.Label.{Label}
use Rattle.rule_arena.specs.declared.label.Label.TheVariants.{Bottom, Call, Param}
use Rattle.slt_grammar.specs.Algebras.{Algebra, ranks_of}
use Rattle.slt_grammar.specs.Automata.{Downward, handed}
use Rattle.slt_grammar.specs.Bodies.{arity, CallsBelow}
use Rattle.slt_grammar.specs.Grammars.{IsGrammar, body_at, rank_at, value_at}
use Rattle.slt_grammar.specs.Terms.{holes_of}
use Rattle.slt_grammar.specs.declared.automata.Fell.{Fell}
use Rattle.slt_grammar.specs.declared.rules.Rule.{Rule}
use Rattle.slt_grammar.proofs.RuleMeanings.{rank_at-ranks_of}
use Rattle.rule_arena.proofs.PreorderLemmas.{slice_get-left}
use Rattle.std.proofs.lemmas.Option.{slice_get_within}
use Rattle.rule_runs.specs.Descents.{CallsMeet, triple_at}
use Rattle.rule_runs.specs.Notes.{AreNotes}
use Rattle.rule_runs.specs.Reached.{RuleStates, Falls, at_call, states_of}
use Rattle.rule_runs.specs.Risen.{IsPair, pair_at}
use Rattle.rule_runs.specs.Walks.{param_downs}
use Rattle.rule_runs.specs.declared.notes.Note.{Note}
use Rattle.rule_runs.specs.declared.notes.Note.TheVariants.{Bottom as NoteBottom, Param as NoteParam, Symbol as NoteSymbol, Call as NoteCall}
use Rattle.rule_runs.proofs.Descents.{calls-meet, handed-value}
use Rattle.rule_runs.proofs.Handing.{IsLinear}
use Rattle.rule_runs.proofs.Lists.{slice_get-at}
use Rattle.rule_runs.proofs.NoteLemmas.{note-bottom, note-param, note-symbol, note-call, note-some, note-none}
use Rattle.bulk_rewrite.specs.Rewriting.{Rewriting, IsLawful, unless}
use Rattle.bulk_rewrite.specs.Making.{Made, MadeBottom, MadeParam, MadeSymbol, MadeCall, named, making, IsNamed, AreNamed}
use Rattle.bulk_rewrite.specs.Frames.{kept_label, symbol_label, HasHanded, Walks}
use Rattle.bulk_rewrite.proofs.Kept.{unless-append, lost-handed, holes-call, length-handed-call}

module _ {S D : Type 0} (ts : List (RuleStates S × D)) where
  named-append : (ms ns : List (Made S D)) (xs ys : List Label) → AreNamed ts ms xs → AreNamed ts ns ys → AreNamed ts (ms ++ ns) (xs ++ ys)
  named-append [] ns [] ys a b = b
  named-append [] ns (x ∷ xs) ys a b = absurd a
  named-append (m ∷ ms) ns [] ys a b = absurd a
  named-append (m ∷ ms) ns (x ∷ xs) ys a b = (a.0, named-append ms ns xs ys a.1 b)

  named-kept : (lost : Bool) (m : Made S D) (l : Label) → IsNamed ts m l → AreNamed ts (unless lost m []) (kept_label lost l)
  named-kept true m l n = tt
  named-kept false m l n = (n, tt)

  named-one : (o : Option ℕ) → AreNamed ts (named {S = S} {D = D} o []) (symbol_label o)
  named-one None = tt
  named-one (Some f) = (refl, tt)

  is-more : (us : List (RuleStates S × D)) (m : Made S D) (l : Label) → IsNamed ts m l → IsNamed (ts ++ us) m l
  is-more us MadeBottom l n = n
  is-more us MadeParam l n = n
  is-more us (MadeSymbol f) l n = n
  is-more us (MadeCall k d) l n = (n.0, n.1, slice_get-left ts us n.0 (slice_get_within ts n.0 (k, d) n.2) ∙ n.2)

  pub named-more : (us : List (RuleStates S × D)) (ms : List (Made S D)) (ls : List Label) → AreNamed ts ms ls → AreNamed (ts ++ us) ms ls
  named-more us [] [] n = tt
  named-more us [] (l ∷ ls) n = absurd n
  named-more us (m ∷ ms) [] n = absurd n
  named-more us (m ∷ ms) (l ∷ ls) n = (is-more us m l n.0, named-more us ms ls n.1)

named-push : {S D : Type 0} (o : Option ℕ) (ms : List (Made S D)) → named o [] ++ ms ≡ named o ms
named-push None ms = refl
named-push (Some f) ms = refl

all-same : {X Y : Type 0} (y : Y) (xs : List X) → map (λ (x : X). y) xs ≡ replicate (length xs) y
all-same y [] = refl
all-same y (x ∷ xs) = ap (λ ys. y ∷ ys) (all-same y xs)

module _ {S D : Type 0} (A : Algebra S) (W : Downward S D) (G : List Rule) (R : Rewriting D) (ks : List (RuleStates S)) where
  pub walk-more : (ts us : List (RuleStates S × D)) (key : RuleStates S) (down : D) (notes : List (Note S)) (ds : List D) (out : List Label) (met : List D)
      → Walks A W G R ks ts key down notes ds out met → Walks A W G R ks (ts ++ us) key down notes ds out met
  walk-more ts us key down notes ds out met w = record {
    args = w.args;
    ls = w.ls;
    done = w.done;
    noted = w.noted;
    named = named-more ts us w.done out w.named;
    whole = w.whole;
    hands = w.hands;
    terms = w.terms;
    meet = w.meet;
    earlier = w.earlier;
  }

  -- a body that is not read yet
  pub walk-start : IsGrammar G → (ts : List (RuleStates S × D)) (key : RuleStates S) (down : D) (notes : List (Note S)) → IsPair G key → Falls S D A W G key.0 key.1 down → AreNotes A G ks key.1 (body_at G key.0) notes
      → Walks A W G R ks ts key down notes (down ∷ []) [] []
  walk-start g ts key down notes pair f noted = record {
    args = key.1;
    ls = body_at G key.0;
    done = [];
    noted = noted;
    named = tt;
    whole = refl;
    hands = handed-value A W G g key pair down;
    terms = (g.each key.0 pair.there).shaped.term;
    meet = calls-meet A W G (Falls S D A W G) key.1 (down ∷ []) (body_at G key.0) (λ place q e. at_call key.0 key.1 down place q f e);
    earlier = (g.each key.0 pair.there).earlier;
  }

  module _ (ts : List (RuleStates S × D)) (key : RuleStates S) (down : D) where
    -- a node is left, so that a term is open
    pub walk-open : (n : Note S) (notes : List (Note S)) (ds : List D) (out : List Label) (met : List D) (w : Walks A W G R ks ts key down (n ∷ notes) ds out met) → ds ≡ [] → ⊥
    walk-open n notes ds out met w e =
        let v = note-some A G ks w.args w.ls n notes w.noted in
        rw (e, v.2) at w.terms

    pub walk-bottom : (notes : List (Note S)) (ds : List D) (d : D) (out : List Label) (met : List D) → Walks A W G R ks ts key down (NoteBottom ∷ notes) (d ∷ ds) out met → Walks A W G R ks ts key down notes ds (out ++ kept_label (R.lost d) Bottom) met
    walk-bottom notes ds d out met w =
        let n = note-bottom A G ks w.args w.ls notes w.noted in
        let m : List (Made S D) = unless (R.lost d) MadeBottom [] in
        let e : w.done ++ unless (R.lost d) MadeBottom (making A W G R w.args ds n.0) ≡ making A W G R key.1 (down ∷ []) (body_at G key.0) = rw n.1 at w.whole in
        record {
          args = w.args;
          ls = n.0;
          done = w.done ++ m;
          noted = n.2;
          named = named-append ts w.done m out (kept_label (R.lost d) Bottom) w.named (named-kept ts (R.lost d) MadeBottom Bottom refl);
          whole = append_assoc w.done m (making A W G R w.args ds n.0) ∙ ap (λ xs. w.done ++ xs) (unless-append (R.lost d) MadeBottom [] (making A W G R w.args ds n.0)) ∙ e;
          hands = rw n.1 at w.hands;
          terms = rw (n.1, zero-add) at w.terms;
          meet = rw n.1 at w.meet;
          earlier = rw n.1 at w.earlier;
        }

    pub walk-param : (notes : List (Note S)) (ds : List D) (d : D) (out : List Label) (met : List D) → Walks A W G R ks ts key down (NoteParam ∷ notes) (d ∷ ds) out met → Walks A W G R ks ts key down notes ds (out ++ kept_label (R.lost d) Param) (met ++ d ∷ [])
    walk-param notes ds d out met w =
        let n = note-param A G ks w.args w.ls notes w.noted in
        let m : List (Made S D) = unless (R.lost d) MadeParam [] in
        let behind : List (Made S D) = making A W G R (drop 1 w.args) ds n.0 in
        let e : w.done ++ unless (R.lost d) MadeParam behind ≡ making A W G R key.1 (down ∷ []) (body_at G key.0) = rw n.1 at w.whole in
        let h : met ++ (d ∷ param_downs A W G (drop 1 w.args) ds n.0) ≡ handed A W (value_at G key.0) key.1 down = rw n.1 at w.hands in
        record {
          args = drop 1 w.args;
          ls = n.0;
          done = w.done ++ m;
          noted = n.2;
          named = named-append ts w.done m out (kept_label (R.lost d) Param) w.named (named-kept ts (R.lost d) MadeParam Param refl);
          whole = append_assoc w.done m behind ∙ ap (λ xs. w.done ++ xs) (unless-append (R.lost d) MadeParam [] behind) ∙ e;
          hands = append_assoc met (d ∷ []) (param_downs A W G (drop 1 w.args) ds n.0) ∙ h;
          terms = rw (n.1, zero-add) at w.terms;
          meet = rw n.1 at w.meet;
          earlier = rw n.1 at w.earlier;
        }

    -- a symbol opens its two children
    pub walk-symbol : (f : ℕ) (kids rest : S) (notes : List (Note S)) (ds : List D) (d : D) (out : List Label) (met : List D) (fell : Fell D) (o : Option ℕ) → Walks A W G R ks ts key down (NoteSymbol f kids rest ∷ notes) (d ∷ ds) out met
        → fell ≡ W.step f d kids rest → o ≡ R.becomes f d fell.hit → Walks A W G R ks ts key down notes (fell.left ∷ fell.right ∷ ds) (out ++ symbol_label o) met
    walk-symbol f kids rest notes ds d out met fell o w is becomes =
        let n = note-symbol A G ks w.args w.ls f kids rest notes w.noted in
        let e : W.step f d (get_or (states_of A G w.args n.0) 0 A.bottom) (get_or (states_of A G w.args n.0) 1 A.bottom) ≡ fell = ap (λ x. W.step f d x (get_or (states_of A G w.args n.0) 1 A.bottom)) (sym n.2) ∙ ap (W.step f d kids) (sym n.3) ∙ sym is in
        let m : List (Made S D) = named o [] in
        let behind : List (Made S D) = making A W G R w.args (fell.left ∷ fell.right ∷ ds) n.0 in
        let h : w.done ++ named (R.becomes f d fell.hit) behind ≡ making A W G R key.1 (down ∷ []) (body_at G key.0) =
        subst (λ (x : Fell D). w.done ++ named (R.becomes f d x.hit) (making A W G R w.args (x.left ∷ x.right ∷ ds) n.0) ≡ making A W G R key.1 (down ∷ []) (body_at G key.0)) e (rw n.1 at w.whole) in
        record {
          args = w.args;
          ls = n.0;
          done = w.done ++ m;
          noted = n.4;
          named = named-append ts w.done m out (symbol_label o) w.named (named-one ts o);
          whole = append_assoc w.done m behind ∙ ap (λ xs. w.done ++ xs) (named-push o behind ∙ ap (λ x. named x behind) becomes) ∙ h;
          hands = subst (λ (x : Fell D). met ++ param_downs A W G w.args (x.left ∷ x.right ∷ ds) n.0 ≡ handed A W (value_at G key.0) key.1 down) e (rw n.1 at w.hands);
          terms = (let t : AreTerms (arity (ranks_of G)) (2 + length ds) n.0 = rw n.1 at w.terms in let k : 2 + length ds ≡ suc (suc (length ds)) = omega arith in rw k at t);
          meet = subst (λ (x : Fell D). CallsMeet A W G (Falls S D A W G) w.args (x.left ∷ x.right ∷ ds) n.0) e (rw n.1 at w.meet);
          earlier = rw n.1 at w.earlier;
        }

    -- a call is met, and of an earlier rule
    pub walk-meets : (i : ℕ) (notes : List (Note S)) (ds : List D) (d : D) (out : List Label) (met : List D) → Walks A W G R ks ts key down (NoteCall i ∷ notes) (d ∷ ds) out met
        → Falls S D A W G (pair_at ks i).0 (pair_at ks i).1 d × (i < length ks) × ((pair_at ks i).0 < key.0)
    walk-meets i notes ds d out met w =
        let n = note-call A G ks w.args w.ls i notes w.noted in
        let kids : List S = take (get_or (ranks_of G) n.0 0) (states_of A G w.args n.1) in
        let k = slice_get-at ks i (n.0, kids) (0, []) n.3 in
        let t : CallsMeet A W G (Falls S D A W G) w.args (d ∷ ds) (Call n.0 ∷ n.1) = rw n.2 at w.meet in
        let below : CallsBelow key.0 (Call n.0 ∷ n.1) = rw n.2 at w.earlier in
        (rw k.1 t.0, k.0, rw k.1 below.0)

    module _ (lin : IsLinear G) where
      -- a lost call opens lost terms
      pub walk-lost : IsLawful W R → (i : ℕ) (notes : List (Note S)) (ds : List D) (d : D) (out : List Label) (met : List D) (w : Walks A W G R ks ts key down (NoteCall i ∷ notes) (d ∷ ds) out met) → R.lost d ≡ true
          → Walks A W G R ks ts key down notes (replicate (rank_at G (pair_at ks i).0) d ++ ds) out met
      walk-lost law i notes ds d out met w lost =
          let n = note-call A G ks w.args w.ls i notes w.noted in
          let q : ℕ = n.0 in
          let behind : List Label = n.1 in
          let kids : List S = take (get_or (ranks_of G) q 0) (states_of A G w.args behind) in
          let k : pair_at ks i ≡ (q, kids) = (slice_get-at ks i (q, kids) (0, []) n.3).1 in
          let r : rank_at G (pair_at ks i).0 ≡ get_or (ranks_of G) q 0 = ap (λ (x : RuleStates S). rank_at G x.0) k ∙ sym (rank_at-ranks_of G q) in
          let h : handed A W (value_at G q) kids d ≡ replicate (rank_at G (pair_at ks i).0) d = lost-handed A W R law kids d lost (value_at G q) ∙ all-same d (holes_of (value_at G q)) ∙ ap (λ n. replicate n d) (holes-call A W G lin q ∙ sym r) in
          let below : CallsBelow key.0 (Call q ∷ behind) = rw n.2 at w.earlier in
          let len : length (handed A W (value_at G q) kids d) ≡ get_or (ranks_of G) q 0 = length-handed-call A W G lin q kids d in
          let z : get_or (ranks_of G) q 0 + length ds ≡ length (handed A W (value_at G q) kids d ++ ds) = omega (arith, len, length-append (handed A W (value_at G q) kids d) ds) in
          let t : AreTerms (arity (ranks_of G)) (get_or (ranks_of G) q 0 + length ds) behind = rw n.2 at w.terms in
          let e : w.done ++ unless (R.lost d) (MadeCall (q, kids) d) (making A W G R w.args (handed A W (value_at G q) kids d ++ ds) behind) ≡ making A W G R key.1 (down ∷ []) (body_at G key.0) = rw n.2 at w.whole in
          let c : CallsMeet A W G (Falls S D A W G) w.args (d ∷ ds) (Call q ∷ behind) = rw n.2 at w.meet in
          let found : Walks A W G R ks ts key down notes (handed A W (value_at G q) kids d ++ ds) out met = record {
            args = w.args;
            ls = behind;
            done = w.done;
            noted = n.4;
            named = w.named;
            whole = rw lost at e;
            hands = rw n.2 at w.hands;
            terms = rw z at t;
            meet = c.1;
            earlier = below.1;
          } in
          subst (λ hs. Walks A W G R ks ts key down notes (hs ++ ds) out met) h found

      -- a call that has its rule opens its arguments
      pub walk-call : (i place : ℕ) (notes : List (Note S)) (ds : List D) (d : D) (out : List Label) (met hands : List D) (w : Walks A W G R ks ts key down (NoteCall i ∷ notes) (d ∷ ds) out met)
          → HasHanded A W G R ks (record { pair = i; down = d }) hands → slice_get ts place ≡ Some (triple_at ks (record { pair = i; down = d }))
          → Walks A W G R ks ts key down notes (hands ++ ds) (out ++ Call place ∷ []) met
      walk-call i place notes ds d out met hands w h at =
          let n = note-call A G ks w.args w.ls i notes w.noted in
          let q : ℕ = n.0 in
          let behind : List Label = n.1 in
          let kids : List S = take (get_or (ranks_of G) q 0) (states_of A G w.args behind) in
          let k : pair_at ks i ≡ (q, kids) = (slice_get-at ks i (q, kids) (0, []) n.3).1 in
          let hs : List D = handed A W (value_at G q) kids d in
          let hd : hs ≡ hands = sym (h.are ∙ ap (λ (x : RuleStates S). handed A W (value_at G x.0) x.1 d) k) in
          let there : slice_get ts place ≡ Some ((q, kids), d) = at ∙ ap (λ (x : RuleStates S). Some (x, d)) k in
          let below : CallsBelow key.0 (Call q ∷ behind) = rw n.2 at w.earlier in
          let len : length hs ≡ get_or (ranks_of G) q 0 = length-handed-call A W G lin q kids d in
          let z : get_or (ranks_of G) q 0 + length ds ≡ length (hs ++ ds) = omega (arith, len, length-append hs ds) in
          let t : AreTerms (arity (ranks_of G)) (get_or (ranks_of G) q 0 + length ds) behind = rw n.2 at w.terms in
          let e : w.done ++ unless (R.lost d) (MadeCall (q, kids) d) (making A W G R w.args (hs ++ ds) behind) ≡ making A W G R key.1 (down ∷ []) (body_at G key.0) = rw n.2 at w.whole in
          let f : w.done ++ (MadeCall (q, kids) d ∷ making A W G R w.args (hs ++ ds) behind) ≡ making A W G R key.1 (down ∷ []) (body_at G key.0) = rw h.here at e in
          let c : CallsMeet A W G (Falls S D A W G) w.args (d ∷ ds) (Call q ∷ behind) = rw n.2 at w.meet in
          let found : Walks A W G R ks ts key down notes (hs ++ ds) (out ++ Call place ∷ []) met = record {
            args = w.args;
            ls = behind;
            done = w.done ++ MadeCall (q, kids) d ∷ [];
            noted = n.4;
            named = named-append ts w.done (MadeCall (q, kids) d ∷ []) out (Call place ∷ []) w.named ((place, refl, there), tt);
            whole = append_assoc w.done (MadeCall (q, kids) d ∷ []) (making A W G R w.args (hs ++ ds) behind) ∙ f;
            hands = rw n.2 at w.hands;
            terms = rw z at t;
            meet = c.1;
            earlier = below.1;
          } in
          subst (λ xs. Walks A W G R ks ts key down notes (xs ++ ds) (out ++ Call place ∷ []) met) hd found

    -- at the end of the notes the body is made
    pub walk-end : (ds : List D) (out : List Label) (met : List D) → Walks A W G R ks ts key down [] ds out met → AreNamed ts (making A W G R key.1 (down ∷ []) (body_at G key.0)) out × (met ≡ handed A W (value_at G key.0) key.1 down)
    walk-end ds out met w =
        let n = note-none A G ks w.args w.ls w.noted in
        let e : w.done ++ [] ≡ making A W G R key.1 (down ∷ []) (body_at G key.0) = rw n at w.whole in
        let h : met ++ [] ≡ handed A W (value_at G key.0) key.1 down = rw n at w.hands in
        (subst (λ ms. AreNamed ts ms out) (sym (append-nil w.done) ∙ e) w.named, sym (append-nil met) ∙ h)
