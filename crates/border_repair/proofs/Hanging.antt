-- The pieces of clean labels hang where the labels hang, and close to clean terms.
use Rattle.std.proofs.Common.{◌≡◌, ◌≢◌, ◌⊎◌, inl, inr, ℕ, zero, suc, ◌+◌, ◌<◌, ◌≤◌, List, [], ◌∷◌, ◌++◌, Some, None, length, get_or, drop, refl, ap, sym, subst, ◌∙◌, arith, append_assoc, append-nil, length-append, true, false}
use Rattle.std.specs.Prelude.{Bool}
use Rattle.std.proofs.Math.Seq.{get_or-append_seam}
use Rattle.std.proofs.lemmas.Bool.{cases_lt}
use Rattle.std.proofs.lemmas.List.{get_or_append_left}
use Rattle.rule_arena.specs.declared.label.Label.{Label}
use Rattle.rule_arena.specs.declared.label.Label.TheVariants.{Bottom, Symbol, Call, Param}
use Rattle.slt_grammar.specs.Algebras.{ranks_of}
use Rattle.slt_grammar.specs.Bodies.{arity, CallsBelow, IsTerm}
use Rattle.slt_grammar.specs.Grammars.{body_at, no_rule}
use Rattle.slt_grammar.specs.declared.digram.Digram.{Digram}
use Rattle.slt_grammar.specs.declared.rules.Rule.{Rule}
use Rattle.slt_grammar.proofs.Substitutions.{joined}
use Rattle.border_repair.specs.Cuts.{Cut, parameter, outer, inner, top, part_of, parts_of, all_args_of, IsCutOf, AreCutsOf, Fine, Hangs, AllHang, Closed, AllClosed, SafeParameter, AreSafeParameters, ShowRims, IsCleanOver, AreCleanOver, HangOver, IsCalmOver, AllCalmOver, AreCalm, AreChosen}
use Rattle.border_repair.specs.Digrams.{is, IsEnd}
use Rattle.border_repair.specs.Edges.{no_flags, kid_tops, kid_flags, IsOpenEdge, IsCleanEdge, Calm, Clean, tops_of}
use Rattle.border_repair.specs.Splitting.{Piece, bare, HasFront, Closes, alone, as_rule, AllClose, none_closes, one_closes}
use Rattle.border_repair.specs.Weighing.{Scale, Above, AreKnown, Rim, hung, first_of, root_from, borders_from, rim_of}
use Rattle.border_repair.proofs.CallsLeft.{hung-other, hung-upper}
use Rattle.border_repair.proofs.Cleaned.{open_top}
use Rattle.border_repair.proofs.Cleaning.{all_in_part, hang-parts, close-clean, all-close-clean, same-many}
use Rattle.border_repair.proofs.Cleaning as cleaning
use Rattle.border_repair.proofs.EdgeLemmas.{is-tells}
use Rattle.border_repair.proofs.RimLemmas.{known-under}
use Rattle.border_repair.proofs.RuleLists.{arity-same, called-there}

-- the rims of rules are those of the first ones too
pub show-first : (G more : List Rule) (s : ℕ → Rim) → ShowRims (G ++ more) s → ShowRims G s
show-first G more s x =
    let n = length-append G more in
    record {
      are = λ r l. x.are r (omega arith) ∙ ap (λ (R : Rule). rim_of s R.body) (get_or_append_left G more no_rule r l);
      known = x.known;
      many = λ q l. x.many q (omega arith) ∙ arity-same G more (Call q) (l, tt);
      roots = x.roots;
    }

-- a label other than the lower one weighs nothing
pub hung-lower : (d : Digram) (l : Label) → l ≢ d.lower → (c : Above) → hung (is d) c (Some l) ≡ 0
hung-lower d l n None = refl
hung-lower d l n (Some (f, i)) = by_digram (is-tells d (record { upper = f; place = i; lower = l })) where
  by_digram : ((is d f i l ≡ 1) × (d ≡ record { upper = Symbol f; place = i; lower = l })) ⊎ ((is d f i l ≡ 0) × (d ≢ record { upper = Symbol f; place = i; lower = l })) → is d f i l ≡ 0
  by_digram (inl x) = absurd (n (sym (ap (λ (z : Digram). z.lower) x.1)))
  by_digram (inr x) = x.0

module _ (e : Scale) (s : ℕ → Rim) (known : (q : ℕ) → AreKnown ((s q).borders)) where
  -- what is above the parameters of terms is known
  pub tops-known : (ls : List Label) (cs : List Above) → borders_from s cs ls ≡ tops_of e s cs ls
  tops-known [] [] = refl
  tops-known [] (c ∷ cs) = refl
  tops-known (l ∷ ls) [] = refl
  tops-known (Bottom ∷ ls) (c ∷ cs) = tops-known ls cs
  tops-known (Symbol f ∷ ls) (c ∷ cs) = tops-known ls (Some (f, 1) ∷ Some (f, 2) ∷ cs)
  tops-known (Param ∷ ls) (c ∷ cs) = ap (λ z. c ∷ z) (tops-known ls cs)
  tops-known (Call q ∷ ls) (c ∷ cs) = ap (λ z. borders_from s (z ++ cs) ls) (known-under c (s q).borders (known q)) ∙ tops-known ls ((s q).borders ++ cs)

  pub part-tops : (l : Label) (part : List Label) → l ≢ Param → borders_from s (None ∷ []) (l ∷ part) ≡ tops_of e s (kid_tops e s l) part
  part-tops Bottom part n = tops-known part []
  part-tops (Symbol f) part n = tops-known part (kid_tops e s (Symbol f))
  part-tops (Call q) part n = tops-known (Call q ∷ part) (None ∷ []) ∙ ap (λ cs. tops_of e s cs part) (append-nil ((s q).borders))
  part-tops Param part n = absurd (n refl)

-- a term alone
bare-closes : (ranks : List ℕ) (bodies : ℕ → List Label) (p : Piece) (t u : List Label) → Closes ranks bodies p t → p ≡ bare u → t ≡ u
bare-closes ranks bodies _ _ u (alone t) e = ap (λ (p : Piece). get_or p.args 0 []) e
bare-closes ranks bodies _ _ u (as_rule p q b r is (l, rest, f, n)) e = absurd (n (ap (λ ls. get_or ls 0 Param) (sym f ∙ ap (λ (p : Piece). p.part) e)))

module _ (d : Digram) (G : List Rule) (s : ℕ → Rim) (x : ShowRims G s) where
  -- nothing weighs anything above the rule of a part
  abbrev pub Stays : Above → Cut → Type 0
  Stays c parameter = Unit {0}
  Stays c (outer l t) = Unit {0}
  Stays c (inner l part args) = hung (is d) c (root_from s (l ∷ part)) ≡ 0

  pub closes-closed : (c : Above) (p : Piece) (k : Cut) (t : List Label) → IsCutOf p k → Closes (ranks_of G) (body_at G) p t → Stays c k → Closed (is d) s c k t
  closes-closed c p parameter t o z y = bare-closes (ranks_of G) (body_at G) p t (Param ∷ []) z o
  closes-closed c p (outer l u) t o z y = bare-closes (ranks_of G) (body_at G) p t (l ∷ u) z o
  closes-closed c p (inner l part args) t o z y = by_closing p t o z where
    by_closing : (p : Piece) (t : List Label) → IsCutOf p (inner l part args) → Closes (ranks_of G) (body_at G) p t → Closed (is d) s c (inner l part args) t
    by_closing _ _ o (alone t) = absurd (o.0 (ap (λ ls. get_or ls 0 Param) (sym o.1)))
    by_closing _ _ o (as_rule p q b r own f) =
        let there : q < length G = called-there G p q own b in
        let body : s q ≡ rim_of s (l ∷ part) = x.are q there ∙ ap (rim_of s) (b ∙ o.1) in (
          q,
          ap (λ (z : Rim). hung (is d) c z.root) body ∙ y,
          ap (λ (z : Rim). z.borders) body ∙ part-tops (is d) s x.known l part o.0,
          ap (λ z. Call q ∷ z) o.2,
        )

  abbrev pub AllStay : List Above → List Cut → Type 0
  AllStay [] [] = Unit {0}
  AllStay [] (k ∷ ks) = ⊥
  AllStay (c ∷ cs) [] = ⊥
  AllStay (c ∷ cs) (k ∷ ks) = Stays c k × AllStay cs ks

  all-closed : (ps : List Piece) (ts : List (List Label)) → AllClose (ranks_of G) (body_at G) ps ts → (cs : List Above) (ks : List Cut) → AreCutsOf ps ks → AllStay cs ks → AllClosed (is d) s cs ks ts
  all-closed _ _ none_closes [] [] o y = tt
  all-closed _ _ none_closes [] (k ∷ ks) o y = absurd o
  all-closed _ _ none_closes (c ∷ cs) [] o y = absurd y
  all-closed _ _ none_closes (c ∷ cs) (k ∷ ks) o y = absurd o
  all-closed _ _ (one_closes p t ps ts z more) cs [] o y = absurd o
  all-closed _ _ (one_closes p t ps ts z more) [] (k ∷ ks) o y = absurd y
  all-closed _ _ (one_closes p t ps ts z more) (c ∷ cs) (k ∷ ks) o y = (closes-closed c p k t o.0 z y.0, all-closed ps ts more cs ks o.1 y.1)

  tops-many : (l : Label) → CallsBelow (length G) (l ∷ []) → length (kid_tops (is d) s l) ≡ arity (ranks_of G) l
  tops-many Bottom b = refl
  tops-many (Symbol f) b = refl
  tops-many Param b = refl
  tops-many (Call q) b = x.many q b.0

  -- the root of a part that isn't the lower label may stand anywhere
  pub root-stays : (c : Above) (k : Cut) → AreChosen d true (k ∷ []) → Hangs (is d) s c true k → Stays c k
  root-stays c parameter n h = tt
  root-stays c (outer l t) n h = tt
  root-stays c (inner Bottom part args) n h = hung-lower d Bottom n c
  root-stays c (inner (Symbol f) part args) n h = hung-lower d (Symbol f) n c
  root-stays c (inner Param part args) n h = absurd (h.0.0 refl)
  root-stays c (inner (Call q) part args) n h = let r = x.roots q in ap (hung (is d) c) (ap (λ z. first_of z (root_from s part)) r.1 ∙ sym r.1) ∙ h.1

-- a piece that hangs is calm below nothing
calm-piece : (e : Scale) (s : ℕ → Rim) (c : Above) (b : Bool) (k : Cut) → Hangs e s c b k → Calm e s (None ∷ []) (true ∷ []) (part_of k)
calm-piece e s c b parameter h = (tt, tt)
calm-piece e s c b (outer l t) h = (tt, tt)
calm-piece e s c b (inner l part args) h = (open_top e s l, cleaning.alone e s (IsOpenEdge e s) (kid_tops e s l) (kid_flags e s l) part h.0.1)

same-part : (p : Piece) (k : Cut) → IsCutOf p k → part_of k ≡ p.part
same-part p parameter o = sym (ap (λ (z : Piece). z.part) o)
same-part p (outer l t) o = sym (ap (λ (z : Piece). z.part) o)
same-part p (inner l part args) o = sym o.1

-- the nodes at the fronts of the first two children
abbrev pub AtPlaces : (ℕ → Label → Type 0) → List Cut → Type 0
AtPlaces P (j ∷ k ∷ ks) = P 1 (top j) × P 2 (top k)
AtPlaces P ks = Unit {0}

module _ (d : Digram) (G : List Rule) where
  -- pieces hang somewhere
  abbrev pub HangSomewhere : List Cut → Type 0
  HangSomewhere ks = (s : ℕ → Rim) → ShowRims G s → (cs : List Above) × (bs : List Bool) × AllHang (is d) s cs bs ks

  pub pieces-calm : (ps : List Piece) (ks : List Cut) → AreCutsOf ps ks → HangSomewhere ks → AllCalmOver d G ps
  pieces-calm [] ks o h = tt
  pieces-calm (p ∷ ps) [] o h = absurd o
  pieces-calm (p ∷ ps) (k ∷ ks) o h = (
    λ s x. let (cs, bs, y) = h s x in subst (Calm (is d) s (None ∷ []) (true ∷ [])) (same-part p k o.0) (first s cs bs y),
    pieces-calm ps ks o.1 (λ s x. let (cs, bs, y) = h s x in others s cs bs y),
  )
    where
      first : (s : ℕ → Rim) (cs : List Above) (bs : List Bool) → AllHang (is d) s cs bs (k ∷ ks) → Calm (is d) s (None ∷ []) (true ∷ []) (part_of k)
      first s [] [] y = absurd y
      first s [] (b ∷ bs) y = absurd y
      first s (c ∷ cs) [] y = absurd y
      first s (c ∷ cs) (b ∷ bs) y = calm-piece (is d) s c b k y.0

      others : (s : ℕ → Rim) (cs : List Above) (bs : List Bool) → AllHang (is d) s cs bs (k ∷ ks) → (cs : List Above) × (bs : List Bool) × AllHang (is d) s cs bs ks
      others s [] [] y = absurd y
      others s [] (b ∷ bs) y = absurd y
      others s (c ∷ cs) [] y = absurd y
      others s (c ∷ cs) (b ∷ bs) y = (cs, bs, y.1)

  pub hang-parameter : (ls : List Label) (ks : List Cut) → HangOver d G ls ks → HangOver d G (Param ∷ ls) (parameter ∷ ks)
  hang-parameter ls ks h s x [] [] y = absurd y
  hang-parameter ls ks h s x [] (b ∷ bs) y = absurd y
  hang-parameter ls ks h s x (c ∷ cs) [] y = absurd y
  hang-parameter ls ks h s x (c ∷ cs) (b ∷ bs) y = ((tt, y.0), h s x cs bs y.1)

  -- the children of a node hang under it
  module _ (l : Label) (ls : List Label) (below : CallsBelow (length G) (l ∷ [])) (kids ks : List Cut) (m : length kids ≡ arity (ranks_of G) l) (h : HangOver d G ls (kids ++ ks)) where
    pub kids-hang : (s : ℕ → Rim) → ShowRims G s → (cs : List Above) (bs : List Bool) → Clean (is d) s (kid_tops (is d) s l ++ cs) (kid_flags (is d) s l ++ bs) ls
        → AllHang (is d) s (kid_tops (is d) s l) (kid_flags (is d) s l) kids × AllHang (is d) s cs bs ks
    kids-hang s x cs bs y =
        let n : length kids ≡ length (kid_tops (is d) s l) = m ∙ sym (tops-many d G s x l below) in
        hang-parts (is d) s kids ks (kid_tops (is d) s l) cs (kid_flags (is d) s l) bs n (n ∙ sym (same-many (is d) s l)) (h s x (kid_tops (is d) s l ++ cs) (kid_flags (is d) s l ++ bs) y)

    pub kids-somewhere : AreCleanOver d G (l ∷ ls) → HangSomewhere kids
    kids-somewhere c s x = let (cs, bs, y) = c s x in by_tops cs bs y where
      by_tops : (cs : List Above) (bs : List Bool) → Clean (is d) s cs bs (l ∷ ls) → (cs : List Above) × (bs : List Bool) × AllHang (is d) s cs bs kids
      by_tops [] [] y = absurd y
      by_tops [] (b ∷ bs) y = absurd y
      by_tops (c ∷ cs) [] y = absurd y
      by_tops (c ∷ cs) (b ∷ bs) y = (kid_tops (is d) s l, kid_flags (is d) s l, (kids-hang s x cs bs y.1).0)

  module _ (apart : d.upper ≢ d.lower) where
    -- an upper node has no parameter at the digram's place
    abbrev pub Kept : Label → List Cut → Type 0
    Kept l = AtPlaces (λ i t. l ≡ d.upper → d.place ≡ i → t ≡ Param → ⊥)

    safe-outer : (c : Above) (l : Label) → l ≡ d.upper → hung (is d) c (Some l) ≡ 0
    safe-outer c l u = ap (λ (k : Label). hung (is d) c (Some k)) u ∙ hung-upper d apart c

    safe-at : (f i : ℕ) (k : Cut) → (Symbol f ≡ d.upper → d.place ≡ i → top k ≡ Param → ⊥) → AreChosen d false (k ∷ []) → SafeParameter (is d) (Some (f, i)) k
    safe-at f i parameter n o = hung-other d f i (λ u p. n (sym u) p refl)
    safe-at f i (outer l t) n o = safe-outer (Some (f, i)) l o.0
    safe-at f i (inner l part args) n o = tt

    first-chosen : (k : Cut) (ks : List Cut) → AreChosen d false (k ∷ ks) → AreChosen d false (k ∷ []) × AreChosen d false ks
    first-chosen parameter ks o = (tt, o)
    first-chosen (outer l t) ks o = ((o.0, tt), o.1)
    first-chosen (inner l part args) ks o = (tt, o)

    -- below a call nothing hangs that weighs anything
    safe-called : (s : ℕ → Rim) (cs : List Above) (ks : List Cut) → AreChosen d false ks → AllHang (is d) s cs (no_flags cs) ks → AreSafeParameters (is d) cs ks
    safe-called s [] [] o h = tt
    safe-called s [] (k ∷ ks) o h = absurd h
    safe-called s (c ∷ cs) [] o h = absurd h
    safe-called s (c ∷ cs) (k ∷ ks) o h = let z = first-chosen k ks o in (by_kind k z.0 h.0.1, safe-called s cs ks z.1 h.1) where
      by_kind : (k : Cut) → AreChosen d false (k ∷ []) → IsCleanEdge (is d) s c false (top k) → SafeParameter (is d) c k
      by_kind parameter o (inl x) = absurd (let y : false ≡ true = x in cc)
      by_kind parameter o (inr x) = x
      by_kind (outer l t) o y = safe-outer c l o.0
      by_kind (inner l part args) o y = tt

    safe-kids : (s : ℕ → Rim) (l : Label) (kids : List Cut) → l ≢ Param → AreChosen d false kids → Kept l kids → AllHang (is d) s (kid_tops (is d) s l) (kid_flags (is d) s l) kids → AreSafeParameters (is d) (kid_tops (is d) s l) kids
    safe-kids s Param kids n o k h = absurd (n refl)
    safe-kids s Bottom [] n o k h = tt
    safe-kids s Bottom (j ∷ kids) n o k h = absurd h
    safe-kids s (Call q) kids n o k h = safe-called s ((s q).borders) kids o h
    safe-kids s (Symbol f) [] n o k h = absurd h
    safe-kids s (Symbol f) (i ∷ []) n o k h = absurd h.1
    safe-kids s (Symbol f) (i ∷ j ∷ z ∷ kids) n o k h = absurd h.1.1
    safe-kids s (Symbol f) (i ∷ j ∷ []) n o k h = let a = first-chosen i (j ∷ []) o in (safe-at f 1 i k.0 a.0, (safe-at f 2 j k.1 a.1, tt))

    pub hang-inner : (l : Label) (ls : List Label) (kids ks : List Cut) → l ≢ Param → CallsBelow (length G) (l ∷ []) → length kids ≡ arity (ranks_of G) l → AreChosen d false kids → Kept l kids
        → HangOver d G ls (kids ++ ks) → HangOver d G (l ∷ ls) (inner l (parts_of kids) (all_args_of kids) ∷ ks)
    hang-inner l ls kids ks n below m o k h s x [] [] y = absurd y
    hang-inner l ls kids ks n below m o k h s x [] (b ∷ bs) y = absurd y
    hang-inner l ls kids ks n below m o k h s x (c ∷ cs) [] y = absurd y
    hang-inner l ls kids ks n below m o k h s x (c ∷ cs) (b ∷ bs) y =
        let z = kids-hang l ls below kids ks m h s x cs bs y.1 in
        let w = all_in_part (is d) s kids (kid_tops (is d) s l) (kid_flags (is d) s l) z.0 (safe-kids s l kids n o k z.0) in
        (((n, w.0, w.1), y.0), z.1)

    -- an outer node is an upper one with a parameter at the digram's place, or the lower one
    abbrev pub Exposed : Label → List Cut → Type 0
    Exposed l kids = ((l ≡ d.upper) × AtPlaces (λ i t. d.place ≡ i → t ≡ Param) kids) ⊎ (l ≡ d.lower)

    module _ (H : List Rule) (s : ℕ → Rim) (x : ShowRims H s) where
      stays-at : (f i : ℕ) (k : Cut) → ((d.place ≡ i → top k ≡ Param) ⊎ (Symbol f ≡ d.lower)) → Fine (is d) s k → Stays d H s x (Some (f, i)) k
      stays-at f i parameter o h = tt
      stays-at f i (outer l t) o h = tt
      stays-at f i (inner l part args) (inl o) h = hung-other d f i (λ u p. h.0 (o p)) (root_from s (l ∷ part))
      stays-at f i (inner l part args) (inr o) h = hung-other d f i (λ u p. apart (u ∙ o)) (root_from s (l ∷ part))

      kids-stay : (l : Label) (kids : List Cut) → IsEnd l → Exposed l kids → AllHang (is d) s (kid_tops (is d) s l) (kid_flags (is d) s l) kids → AllStay d H s x (kid_tops (is d) s l) kids
      kids-stay Param kids n o h = absurd (no n) where
        no : IsEnd Param → ⊥
        no (inl (f, e)) = let y : Param ≡ Symbol f = e in cc
        no (inr e) = let y : Param ≡ Bottom = e in cc
      kids-stay (Call q) kids n o h = absurd (no n) where
        no : IsEnd (Call q) → ⊥
        no (inl (f, e)) = let y : Call q ≡ Symbol f = e in cc
        no (inr e) = let y : Call q ≡ Bottom = e in cc
      kids-stay Bottom [] n o h = tt
      kids-stay Bottom (j ∷ kids) n o h = absurd h
      kids-stay (Symbol f) [] n o h = absurd h
      kids-stay (Symbol f) (i ∷ []) n o h = absurd h.1
      kids-stay (Symbol f) (i ∷ j ∷ z ∷ kids) n o h = absurd h.1.1
      kids-stay (Symbol f) (i ∷ j ∷ []) n (inl (u, o)) h = (stays-at f 1 i (inl o.0) h.0.0, (stays-at f 2 j (inl o.1) h.1.0.0, tt))
      kids-stay (Symbol f) (i ∷ j ∷ []) n (inr o) h = (stays-at f 1 i (inr o) h.0.0, (stays-at f 2 j (inr o) h.1.0.0, tt))

    pub hang-outer : (more : List Rule) (l : Label) (ls : List Label) (ps : List Piece) (kids ks : List Cut) (ts : List (List Label)) → IsEnd l → CallsBelow (length G) (l ∷ []) → length kids ≡ arity (ranks_of G) l
        → AreCutsOf ps kids → AllClose (ranks_of (G ++ more)) (body_at (G ++ more)) ps ts → Exposed l kids → HangOver d G ls (kids ++ ks) → HangOver d (G ++ more) (l ∷ ls) (outer l (joined ts) ∷ ks)
    hang-outer more l ls ps kids ks ts n below m o z k h s x [] [] y = absurd y
    hang-outer more l ls ps kids ks ts n below m o z k h s x [] (b ∷ bs) y = absurd y
    hang-outer more l ls ps kids ks ts n below m o z k h s x (c ∷ cs) [] y = absurd y
    hang-outer more l ls ps kids ks ts n below m o z k h s x (c ∷ cs) (b ∷ bs) y =
        let w = kids-hang l ls below kids ks m h s (show-first G more s x) cs bs y.1 in
        let v = all-closed d (G ++ more) s x ps ts z (kid_tops (is d) s l) kids o (kids-stay (G ++ more) s x l kids n k w.0) in
        (((n, all-close-clean (is d) s kids (kid_tops (is d) s l) (kid_flags (is d) s l) ts w.0 v), y.0), w.1)

-- the term in place of a whole clean body is clean
pub outside-clean : (d : Digram) (G more : List Rule) (body t : List Label) (p : Piece) (k : Cut) → IsCutOf p k → Closes (ranks_of (G ++ more)) (body_at (G ++ more)) p t → AreChosen d true (k ∷ [])
    → HangOver d G body (k ∷ []) → IsCleanOver d G body → IsCleanOver d (G ++ more) t
outside-clean d G more body t p k o z n h y s x c =
    let w = (h s (show-first G more s x) (c ∷ []) (true ∷ []) (y s (show-first G more s x) c)).0 in
    close-clean (is d) s c true k t w (closes-closed d (G ++ more) s x c p k t o z (root-stays d (G ++ more) s x c k n w))

-- what is known of labels stays known behind more rules
pub calm-later : (d : Digram) (G more H : List Rule) (ls : List Label) → H ≡ G ++ more → IsCalmOver d G ls → IsCalmOver d H ls
calm-later d G more H ls e h s x = h s (show-first G more s (subst (λ R. ShowRims R s) e x))

pub clean-later : (d : Digram) (G more H : List Rule) (ls : List Label) → H ≡ G ++ more → IsCleanOver d G ls → IsCleanOver d H ls
clean-later d G more H ls e h s x = h s (show-first G more s (subst (λ R. ShowRims R s) e x))

-- one more rule, whose body is calm
pub calm-more : (d : Digram) (G : List Rule) (R : Rule) → HasFront R.body → ((more : List Rule) → IsTerm (ranks_of (G ++ R ∷ more)) R.body) → IsCalmOver d G R.body → AreCalm d G → AreCalm d (G ++ R ∷ [])
calm-more d G R f t h a = record { fronts = λ r l. front_at r l (cases_lt r (length G)); terms = λ r o l more. term_at r o l more (cases_lt r (length G)); calm = λ r o l. calm_at r o l (cases_lt r (length G)) } where
  n : length (G ++ R ∷ []) ≡ length G + 1
  n = length-append G (R ∷ [])

  kept : (r : ℕ) → r < length G → body_at (G ++ R ∷ []) r ≡ body_at G r
  kept r l = ap (λ (S : Rule). S.body) (get_or_append_left G (R ∷ []) no_rule r l)

  own : (r : ℕ) → r < length (G ++ R ∷ []) → length G ≤ r → body_at (G ++ R ∷ []) r ≡ R.body
  own r l m = let same : r ≡ length G = omega (arith, n) in ap (body_at (G ++ R ∷ [])) same ∙ ap (λ (S : Rule). S.body) (get_or-append_seam G R [] no_rule)

  front_at : (r : ℕ) → r < length (G ++ R ∷ []) → (r < length G) ⊎ (length G ≤ r) → HasFront (body_at (G ++ R ∷ []) r)
  front_at r l (inl b) = subst HasFront (sym (kept r b)) (a.fronts r b)
  front_at r l (inr b) = subst HasFront (sym (own r l b)) f

  term_at : (r : ℕ) → 0 < r → r < length (G ++ R ∷ []) → (more : List Rule) → (r < length G) ⊎ (length G ≤ r) → IsTerm (ranks_of ((G ++ R ∷ []) ++ more)) (body_at (G ++ R ∷ []) r)
  term_at r o l more (inl b) = subst (IsTerm (ranks_of ((G ++ R ∷ []) ++ more))) (sym (kept r b)) (subst (λ H. IsTerm (ranks_of H) (body_at G r)) (sym (append_assoc G (R ∷ []) more)) (a.terms r o b (R ∷ more)))
  term_at r o l more (inr b) = subst (IsTerm (ranks_of ((G ++ R ∷ []) ++ more))) (sym (own r l b)) (subst (λ H. IsTerm (ranks_of H) R.body) (sym (append_assoc G (R ∷ []) more)) (t more))

  calm_at : (r : ℕ) → 0 < r → r < length (G ++ R ∷ []) → (r < length G) ⊎ (length G ≤ r) → IsCalmOver d (G ++ R ∷ []) (body_at (G ++ R ∷ []) r)
  calm_at r o l (inl b) = subst (IsCalmOver d (G ++ R ∷ [])) (sym (kept r b)) (calm-later d G (R ∷ []) (G ++ R ∷ []) (body_at G r) refl (a.calm r o b))
  calm_at r o l (inr b) = subst (IsCalmOver d (G ++ R ∷ [])) (sym (own r l b)) (calm-later d G (R ∷ []) (G ++ R ∷ []) R.body refl h)

-- what is left of clean labels is clean somewhere
pub clean-suffix : (e : Scale) (s : ℕ → Rim) (n : ℕ) (ls : List Label) (cs : List Above) (bs : List Bool) → Clean e s cs bs ls → (ds : List Above) × (fs : List Bool) × Clean e s ds fs (drop n ls)
clean-suffix e s zero ls cs bs y = (cs, bs, y)
clean-suffix e s (suc n) [] [] [] y = ([], [], tt)
clean-suffix e s (suc n) [] [] (b ∷ bs) y = absurd y
clean-suffix e s (suc n) [] (c ∷ cs) [] y = absurd y
clean-suffix e s (suc n) [] (c ∷ cs) (b ∷ bs) y = absurd y
clean-suffix e s (suc n) (l ∷ ls) [] [] y = absurd y
clean-suffix e s (suc n) (l ∷ ls) [] (b ∷ bs) y = absurd y
clean-suffix e s (suc n) (l ∷ ls) (c ∷ cs) [] y = absurd y
clean-suffix e s (suc n) (l ∷ ls) (c ∷ cs) (b ∷ bs) y = clean-suffix e s n ls (kid_tops e s l ++ cs) (kid_flags e s l ++ bs) y.1
