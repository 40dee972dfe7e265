-- What a run downward adds up stays within the value of the rule that it reads.
use Rattle.std.proofs.Common.{◌≡◌, ℕ, ◌+◌, ◌^◌, ◌<◌, ◌≤◌, List, [], ◌∷◌, ◌++◌, length, get_or, drop, map, sum_by, Bool, true, false, refl, ap, ◌∙◌, arith, length-append}
use Rattle.std.proofs.lemmas.List.{length-map, length_push}
use Rattle.std.proofs.lemmas.List.Sums.{sum_by-append}
use Rattle.rule_arena.specs.declared.label.Label.{Label}
use Rattle.rule_arena.specs.declared.label.Label.TheVariants.{Bottom, Symbol, Call, Param}
use Rattle.slt_grammar.specs.Algebras.{Algebra}
use Rattle.slt_grammar.specs.Automata.{Downward, handed, nodes_in}
use Rattle.slt_grammar.specs.Grammars.{value_at}
use Rattle.slt_grammar.specs.Terms.{Term, Leaf, Node, Hole, up}
use Rattle.slt_grammar.specs.declared.rules.Rule.{Rule}
use Rattle.rule_runs.specs.Reached.{RuleStates, states_of}
use Rattle.rule_runs.specs.declared.descent.Mark.{Mark}
use Rattle.rule_runs.specs.declared.descent.Mark.TheVariants.{Term as MarkTerm, Piece as MarkPiece}
use Rattle.rule_runs.specs.declared.notes.Note.{Note}
use Rattle.rule_runs.specs.declared.notes.Note.TheVariants.{Call as NoteCall}
use Rattle.rule_runs.specs.declared.spots.Handed.{Handed}
use Rattle.rule_runs.specs.declared.told.Here.{Here}
use Rattle.rule_runs.specs.declared.told.Told.{Told}
use Rattle.rule_runs.specs.Cuts.{Stretch, nothing, one, beside, before, joined, cut}
use Rattle.rule_runs.specs.Descents.{AreOpen, HasRoomAhead, Walks, HasOutcome, ahead}
use Rattle.rule_runs.specs.Hits.{raised}
use Rattle.rule_runs.specs.Outcomes.{Outcome, befores, tolds}
use Rattle.rule_runs.specs.Risen.{pair_at}
use Rattle.rule_runs.specs.Tellings.{Listed, HasRoom, Tells}
use Rattle.rule_runs.specs.Walks.{Open, Place, Piece, absorbed, after, down_at, woven_marks, kids_of, told}
use Rattle.rule_runs.proofs.Marks.{open-term}
use Rattle.rule_runs.proofs.NoteLemmas.{note-call}
use Rattle.rule_runs.proofs.Lists.{slice_get-at}
use Rattle.rule_runs.proofs.Tellings.{told-at}

-- something that is counted of stretches, at most one for a node
pub record Counts (f : Stretch → ℕ) : Type 0 where
  pub none : f nothing ≡ 0
  pub single : (b : Bool) (g : ℕ) → f (one b g) ≤ 1
  pub both : (s t : Stretch) → f (beside s t) ≡ f s + f t

abbrev pub nodes_of : Stretch → ℕ
nodes_of s = s.nodes

abbrev pub hits_of : Stretch → ℕ
hits_of s = length s.hits

pub nodes-counted : Counts nodes_of
nodes-counted = record { none = refl; single = λ b g. omega arith; both = λ s t. refl }

one-hit : (b : Bool) (g : ℕ) → length (one b g).hits ≤ 1
one-hit true g = omega arith
one-hit false g = omega arith

pub hits-counted : Counts hits_of
hits-counted = record {
  none = refl;
  single = one-hit;
  both = λ s t. length-append s.hits (map (raised s.nodes) t.hits) ∙ ap (λ n. length s.hits + n) (length-map t.hits (raised s.nodes));
}

module _ (f : Stretch → ℕ) (k : Counts f) where
  sum-cons : (s : Stretch) (ss : List Stretch) → sum_by f (s ∷ ss) ≡ f s + sum_by f ss
  sum-cons s ss = omega (arith, sum_by-append f (s ∷ []) ss)

  sum-before : (s : Stretch) (ts : List Stretch) → sum_by f (before s ts) ≡ f s + sum_by f ts
  sum-before s [] = sum-cons s []
  sum-before s (t ∷ ts) = omega (arith, sum-cons (beside s t) ts, sum-cons t ts, k.both s t)

  sum-joined : (ss ts : List Stretch) → sum_by f (joined ss ts) ≡ sum_by f ss + sum_by f ts
  sum-joined [] ts = omega arith
  sum-joined (s ∷ []) ts = omega (arith, sum-before s ts, sum-cons s [])
  sum-joined (s ∷ s' ∷ ss) ts = omega (arith, sum-cons s (joined (s' ∷ ss) ts), sum-joined (s' ∷ ss) ts, sum-cons s (s' ∷ ss))

  absorbed-more : {D : Type 0} (s : Stretch) (ms : List (Open D)) → f s ≤ f (absorbed s ms)
  absorbed-more s [] = omega arith
  absorbed-more s (Place d ∷ ms) = omega arith
  absorbed-more s (Piece t ∷ ms) = omega (arith, absorbed-more (beside s t) ms, k.both s t)

  module _ {S D : Type 0} (A : Algebra S) (W : Downward S D) where
    -- all stretches of a term together
    pub cut-within : (t : Term) (states : List S) (d : D) → sum_by f (cut A W t states d) ≤ nodes_in t
    cut-within Leaf states d = omega (arith, sum-cons nothing [], k.none)
    cut-within (Hole i) states d = omega (arith, sum-cons nothing (nothing ∷ []), sum-cons nothing [], k.none)
    cut-within (Node g a b) states d =
        let s = W.step g d (up A a states) (up A b states) in
        let ca : List Stretch = cut A W a states s.left in
        let cb : List Stretch = cut A W b states s.right in
        omega (arith, sum-before (one s.hit g) (joined ca cb), sum-joined ca cb, k.single s.hit g, cut-within a states s.left, cut-within b states s.right)

    -- a stretch is told with all that stands before the next term
    pub told-more : (G : List Rule) (args : List S) (s : Stretch) (ms : List (Open D)) (ls : List Label) → f (absorbed s ms) ≤ sum_by f (told A W G args s ms ls)
    told-more G args s ms [] = omega (arith, sum-cons (absorbed s ms) [])
    told-more G args s ms (Param ∷ ls) = omega (arith, sum-cons (absorbed s ms) (told A W G (drop 1 args) nothing (after ms) ls))
    told-more G args s ms (Bottom ∷ ls) = omega (arith, told-more G args (absorbed s ms) (after ms) ls, absorbed-more (absorbed s ms) (after ms))
    told-more G args s ms (Symbol g ∷ ls) =
        let kids : List S = states_of A G args ls in
        let st = W.step g (down_at W.start ms) (get_or kids 0 A.bottom) (get_or kids 1 A.bottom) in
        omega (arith, told-more G args (beside (absorbed s ms) (one st.hit g)) (Place st.left ∷ Place st.right ∷ after ms) ls, k.both (absorbed s ms) (one st.hit g))
    told-more G args s ms (Call q ∷ ls) =
        let kids : List S = kids_of A W G q args ls in
        let d : D = down_at W.start ms in
        let ss : List Stretch = cut A W (value_at G q) kids d in
        let next : Stretch = beside (absorbed s ms) (get_or ss 0 nothing) in
        let ns : List (Open D) = woven_marks (handed A W (value_at G q) kids d) (drop 1 ss) ++ after ms in
        omega (arith, told-more G args next ns ls, absorbed-more next ns, k.both (absorbed s ms) (get_or ss 0 nothing))

  -- the words of the pieces before the next term are those of what is absorbed
  pub ahead-is : {D : Type 0} (word : Told → ℕ) (lists : Listed) → ((t : Told) (u : Stretch) → Tells lists t u → word t ≡ f u)
      → (s : Stretch) (marks : List (Mark D)) (ms : List (Open D)) → AreOpen lists marks ms → f s + ahead word marks ≡ f (absorbed s ms)
  ahead-is word lists h s [] [] o = omega arith
  ahead-is word lists h s [] (m ∷ ms) o = absurd o
  ahead-is word lists h s (MarkTerm d ∷ xs) [] o = absurd o
  ahead-is word lists h s (MarkTerm d ∷ xs) (Piece u ∷ ms) o = absurd o
  ahead-is word lists h s (MarkTerm d ∷ xs) (Place e ∷ ms) o = omega arith
  ahead-is word lists h s (MarkPiece t ∷ xs) [] o = absurd o
  ahead-is word lists h s (MarkPiece t ∷ xs) (Place d ∷ ms) o = absurd o
  ahead-is word lists h s (MarkPiece t ∷ xs) (Piece u ∷ ms) o = omega (arith, ahead-is word lists h (beside s u) xs ms o.1, k.both s u, h t u o.0)

module _ {S D : Type 0} (A : Algebra S) (W : Downward S D) (G : List Rule) (ks : List (RuleStates S)) (lists : Listed) (key : RuleStates S) (down : D) (met : List (Handed D)) where
  module _ (notes : List (Note S)) (marks : List (Mark D)) (here : Here) (w : Walks A W G ks lists key down notes marks here met) where
    walk-within : (f : Stretch → ℕ) (k : Counts f) → f (absorbed w.s w.ms) ≤ nodes_in (value_at G key.0)
    walk-within f k =
        omega (arith, told-more f k A W G w.args w.s w.ms w.ls, sum_by-append f w.done (told A W G w.args w.s w.ms w.ls), ap (sum_by f) w.stretches, cut-within f k A W (value_at G key.0) key.1 down)

    -- what is absorbed before the next term fits
    pub walk-room : nodes_in (value_at G key.0) < 2 ^ 63 → HasRoomAhead here marks
    walk-room small =
        let t = w.telling in
        record {
          nodes = omega (arith, t.nodes, ahead-is nodes_of nodes-counted (λ t. t.nodes) lists (λ t u h. h.nodes) w.s marks w.ms w.marked, walk-within nodes_of nodes-counted);
          hits = omega (arith, t.hits, ahead-is hits_of hits-counted (λ t. t.hits) lists (λ t u h. h.hits) w.s marks w.ms w.marked, walk-within hits_of hits-counted);
        }

    -- and so does a node
    pub walk-room-one : nodes_in (value_at G key.0) < 2 ^ 63 → (here.nodes + 1 < 2 ^ 64) × (here.hits + 1 < 2 ^ 64)
    walk-room-one small =
        let t = w.telling in (
          omega (arith, t.nodes, absorbed-more nodes_of nodes-counted w.s w.ms, walk-within nodes_of nodes-counted),
          omega (arith, t.hits, absorbed-more hits_of hits-counted w.s w.ms, walk-within hits_of hits-counted),
        )

  -- the first stretch of a call fits
  module _ (i : ℕ) (notes : List (Note S)) (marks : List (Mark D)) (here : Here) (d : D) (w : Walks A W G ks lists key down (NoteCall i ∷ notes) (MarkTerm d ∷ marks) here met) (known : Outcome D) (h : HasOutcome A W G ks lists (record { pair = i; down = d }) known) where
    call-within : (f : Stretch → ℕ) (k : Counts f) → f w.s + f (get_or (cut A W (value_at G (pair_at ks i).0) (pair_at ks i).1 d) 0 nothing) ≤ nodes_in (value_at G key.0)
    call-within f k =
        let m = open-term lists d marks w.ms w.marked in
        let n = note-call A G ks w.args w.ls i notes w.noted in
        let q : ℕ = n.0 in
        let kids : List S = kids_of A W G q w.args n.1 in
        let p : pair_at ks i ≡ (q, kids) = (slice_get-at ks i (q, kids) (0, []) n.3).1 in
        let ss : List Stretch = cut A W (value_at G q) kids d in
        let same : cut A W (value_at G (pair_at ks i).0) (pair_at ks i).1 d ≡ ss = ap (λ (x : RuleStates S). cut A W (value_at G x.0) x.1 d) p in
        let next : Stretch = beside w.s (get_or ss 0 nothing) in
        let ns : List (Open D) = woven_marks (handed A W (value_at G q) kids d) (drop 1 ss) ++ m.0 in
        let e : w.done ++ told A W G w.args next ns n.1 ≡ cut A W (value_at G key.0) key.1 down = rw (m.1, n.2) at w.stretches in
        omega (
          arith,
          ap (λ (x : List Stretch). f (get_or x 0 nothing)) same,
          k.both w.s (get_or ss 0 nothing),
          absorbed-more f k next ns,
          told-more f k A W G w.args next ns n.1,
          sum_by-append f w.done (told A W G w.args next ns n.1),
          ap (sum_by f) e,
          cut-within f k A W (value_at G key.0) key.1 down,
        )

    pub walk-room-call : nodes_in (value_at G key.0) < 2 ^ 63 → (t : Told) → t ≡ get_or (tolds known) 0 t → HasRoom here t
    walk-room-call small t e =
        let tells = told-at lists (tolds known) (cut A W (value_at G (pair_at ks i).0) (pair_at ks i).1 d) 0 t h.finished (omega (arith, length_push (befores known.handed) known.last)) e in
        let so_far = w.telling in
        record {
          nodes = omega (arith, so_far.nodes, tells.nodes, call-within nodes_of nodes-counted);
          hits = omega (arith, so_far.hits, tells.hits, call-within hits_of hits-counted);
        }
