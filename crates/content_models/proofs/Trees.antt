-- A checker hits the wrong elements of a coded document.
use Rattle.std.proofs.Common.{◌≡◌, ◌⊎◌, inl, inr, ℕ, zero, suc, ◌+◌, ◌<◌, ◌≤◌, List, [], ◌∷◌, ◌++◌, Option, Some, None, slice_get, map, length, get_or, refl, ap, sym, subst, ◌∙◌, arith, append-nil, length-append}
use Rattle.std.specs.Prelude.{◌↔◌, Bool, true, false, not, if◌then◌else◌}
use Rattle.std.specs.Str.{bytes_eq}
use Rattle.std.proofs.lemmas.Bool.{false≢true, not-true, false_from_ne_true}
use Rattle.plain_tree.specs.declared.kind.Kind.{Kind}
use Rattle.plain_tree.specs.declared.kind.Kind.TheVariants.{Document, Element, Attribute, Text, Comment, Instruction}
use Rattle.plain_tree.specs.Numbers.{nodes_all}
use Rattle.plain_tree.specs.Tree.{Tree, node, Trees, none, more}
use Rattle.slt_grammar.specs.Automata.{hits_from, nodes_in}
use Rattle.slt_grammar.specs.Coding.{Codes}
use Rattle.slt_grammar.specs.Terms.{Term, up}
use Rattle.content_models.specs.declared.sorts.Sort.TheVariants.{Other, Free, Ruled}
use Rattle.content_models.specs.declared.states.Chain.{Chain}
use Rattle.content_models.specs.declared.states.Chain.TheVariants.{Empty, Stuck, Near, Far}
use Rattle.content_models.specs.declared.states.OneState.{OneState}
use Rattle.content_models.specs.declared.ways.Spot.{Spot}
use Rattle.content_models.specs.Checking.{Checking, no_sets, sets_of, has_ended, behind, known_at, is_wrong, checking_algebra, checking_downward}
use Rattle.content_models.specs.Compiled.{IsCompiled, any_place, ruled_from, sort_of}
use Rattle.content_models.specs.Matching.{enter}
use Rattle.content_models.specs.Models.{Model, Matches}
use Rattle.content_models.specs.Places.{Before, AreOpen, Agree}
use Rattle.content_models.specs.Ways.{leads, marks, places_of, takes, to_end, way_of}
use Rattle.content_models.specs.Wrong.{element_names, model_of, IsWrong, AreWrong}
use Rattle.content_models.proofs.Forms.{ways, places-read}
use Rattle.content_models.proofs.Marks.{is_next, marks-none, none-in}
use Rattle.content_models.proofs.Right.{entered, reads, blank}
use Rattle.content_models.proofs.Rows.{agree-same, at-model, behind-marks, places-agree}

abbrev Schema : Type 0
Schema = List (List ℕ × Model)

abbrev IsEnd : List (List ℕ) → Type 0
IsEnd names = names ≡ []

-- for each model, the set is right
abbrev AllOpen : Schema → List ℕ → List (List ℕ) → Type 0
AllOpen S sets names = (k : ℕ) (x : List ℕ × Model) → slice_get S k ≡ Some x → AreOpen 0 x.1 (marks (get_or sets k 0)) IsEnd names

-- what is known of a chain is right
record Knows (S : Schema) (rows : List (List Spot)) (chain : Chain) (names : List (List ℕ)) : Type 0 where
  ended : (has_ended chain ≡ true) ↔ (names ≡ [])
  marked : AllOpen S (sets_of rows chain) names

knows-nothing : (S : Schema) (rows : List (List Spot)) → Knows S rows Empty []
knows-nothing S rows = record {
  ended = (λ _. refl, λ _. refl);
  marked = λ k x e. blank x.1 0 (marks (get_or no_sets k 0)) IsEnd (λ i. ap (λ n. marks n i) (none-in 64 k) ∙ marks-none i);
}

none_some : (x : List ℕ × Model) → ◌≡◌ {A = Option (List ℕ × Model)} None (Some x) → ⊥
none_some x e = cc

some_same : (x y : List ℕ × Model) → ◌≡◌ {A = Option (List ℕ × Model)} (Some x) (Some y) → x ≡ y
some_same x y e = ap (λ (o : Option (List ℕ × Model)). elim o [ Some p ↦ p | None ↦ y ]) e

within : (S : Schema) (k : ℕ) (x : List ℕ × Model) → slice_get S k ≡ Some x → k < length S
within [] k x e = absurd (none_some x e)
within (y ∷ S) zero x e = omega arith
within (y ∷ S) (suc k) x e = omega (arith, within S k x e)

-- a chain with a name before it has names
not_ended : (rows : List (List Spot)) (f : ℕ) (rest : Chain) → has_ended (behind rows f rest) ≡ false
not_ended rows f rest = of_rest rest where
  of_near : (bits : ℕ) (b : Bool) → has_ended (if b then Stuck else Near f bits) ≡ false
  of_near bits true = refl
  of_near bits false = refl

  of_far : (sets : List ℕ) (b : Bool) → has_ended (if b then Stuck else Far sets) ≡ false
  of_far sets true = refl
  of_far sets false = refl

  of_before : (bits : ℕ) (sets : List ℕ) (a b c : Bool) → has_ended (if c then (if a then Stuck else Near f bits) else (if b then Stuck else Far sets)) ≡ false
  of_before bits sets a b true = of_near bits a
  of_before bits sets a b false = of_far sets b

  of_rest : (r : Chain) → has_ended (behind rows f r) ≡ false
  of_rest Empty = of_before _ _ _ _ _
  of_rest Stuck = refl
  of_rest (Near g bits) = of_before _ _ _ _ _
  of_rest (Far sets) = of_before _ _ _ _ _

-- a model misses a chain that it does not match
missed : (names : List (List ℕ)) (ended : Bool) → (ended ≡ true) ↔ (names ≡ []) → (m : Model) (set : ℕ) → AreOpen 0 m (marks set) IsEnd names → (leads (way_of 0 m to_end) set ended ≡ true) ↔ Matches m names
missed names ended e m set o = (there, back) where
  rule : (enter 0 m (marks set) ended ≡ true) ↔ Before m IsEnd names
  rule = entered m 0 (marks set) ended IsEnd names e o

  same : leads (way_of 0 m to_end) set ended ≡ enter 0 m (marks set) ended
  same = ways m 0 to_end set ended

  there : leads (way_of 0 m to_end) set ended ≡ true → Matches m names
  there h = let r = rule.0 (sym same ∙ h) in subst (Matches m) (sym (r.4 ∙ ap (λ z. r.0 ++ z) r.3 ∙ append-nil r.0)) r.2

  back : Matches m names → leads (way_of 0 m to_end) set ended ≡ true
  back h = same ∙ rule.1 (names, [], h, refl, sym (append-nil names))

-- the model that a schema gives to a name, and its number
abbrev Rules : Schema → ℕ → List ℕ → Type 0
Rules S j name =
    ((ruled_from j S name ≡ Free) × (model_of S name ≡ None))
    ⊎ ((k : ℕ) × (x : List ℕ × Model) × (slice_get S k ≡ Some x) × (ruled_from j S name ≡ Ruled (j + k)) × (model_of S name ≡ Some x.1))

ruled : (S : Schema) (j : ℕ) (name : List ℕ) → Rules S j name
ruled [] j name = inl (refl, refl)
ruled ((n, m) ∷ S) j name = by_name (bytes_eq n name) (ruled S (suc j) name) where
  same : j ≡ j + 0
  same = omega arith

  by_name : (b : Bool) → Rules S (suc j) name
      → (((if b then Ruled j else ruled_from (suc j) S name) ≡ Free) × ((if b then Some m else model_of S name) ≡ None))
      ⊎ ((k : ℕ) × (x : List ℕ × Model) × (slice_get ((n, m) ∷ S) k ≡ Some x) × ((if b then Ruled j else ruled_from (suc j) S name) ≡ Ruled (j + k)) × ((if b then Some m else model_of S name) ≡ Some x.1))
  by_name true r = inr (0, (n, m), refl, ap Ruled same, refl)
  by_name false (inl h) = inl h
  by_name false (inr (k, x, g, r, h)) = inr (suc k, x, g, r ∙ ap Ruled (omega arith), h)

front-at : (S : Schema) (k : ℕ) (x : List ℕ × Model) → slice_get S k ≡ Some x → get_or (map (λ (pair : List ℕ × Model). way_of 0 pair.1 to_end) S) k to_end ≡ way_of 0 x.1 to_end
front-at [] k x e = absurd (none_some x e)
front-at (y ∷ S) zero x e = ap (λ (z : List ℕ × Model). way_of 0 z.1 to_end) (some_same y x e)
front-at (y ∷ S) (suc k) x e = front-at S k x e

none_model : (m : Model) → ◌≡◌ {A = Option Model} None (Some m) → ⊥
none_model m e = cc

model_same : (m n : Model) → Some m ≡ Some n → m ≡ n
model_same m n e = cc

no_pair : (p : Kind × List ℕ) → ◌≡◌ {A = Option (Kind × List ℕ)} None (Some p) → ⊥
no_pair p e = cc

pair_same : (p q : Kind × List ℕ) → ◌≡◌ {A = Option (Kind × List ℕ)} (Some p) (Some q) → p ≡ q
pair_same p q e = ap (λ (o : Option (Kind × List ℕ)). elim o [ Some r ↦ r | None ↦ q ]) e

in_table : (S : Schema) (kind : Kind) (name : List ℕ) (pairs : List (Kind × List ℕ)) (f : ℕ) → slice_get pairs f ≡ Some (kind, name) → get_or (map (λ pair. sort_of S pair.0 pair.1) pairs) f Other ≡ sort_of S kind name
in_table S kind name [] f g = absurd (no_pair (kind, name) g)
in_table S kind name (p ∷ pairs) zero g = ap (λ (q : Kind × List ℕ). sort_of S q.0 q.1) (pair_same p (kind, name) g)
in_table S kind name (p ∷ pairs) (suc f) g = in_table S kind name pairs f g

ruled-reads : (rows : List (List Spot)) (f : ℕ) (rest : Chain) (S : Schema) (name : List ℕ) → known_at rows (ruled_from 0 S name) f rest ≡ behind rows f rest
ruled-reads rows f rest S name = elim (ruled S 0 name) [ inl r ↦ ap (λ s. known_at rows s f rest) r.0 | inr r ↦ ap (λ s. known_at rows s f rest) r.3 ]

-- lists of wrong nodes, joined
wrong-append : (S : Schema) (from : ℕ) (xs ys : List Tree) (ms ns : List ℕ) → AreWrong S from xs ms → AreWrong S (from + length xs) ys ns → AreWrong S from (xs ++ ys) (ms ++ ns)
wrong-append S from [] ys ms ns a b = subst (λ z. AreWrong S from ys (z ++ ns)) (sym a) (subst (λ k. AreWrong S k ys ns) (omega arith) b)
wrong-append S from (x ∷ xs) ys ms ns (inl (w, (later, a, e))) b =
    inl (w, (later ++ ns, wrong-append S (suc from) xs ys later ns a (subst (λ k. AreWrong S k ys ns) (omega arith) b), ap (λ z. z ++ ns) e))
wrong-append S from (x ∷ xs) ys ms ns (inr (w, a)) b = inr (w, wrong-append S (suc from) xs ys ms ns a (subst (λ k. AreWrong S k ys ns) (omega arith) b))

wrong-front : (S : Schema) (from : ℕ) (t : Tree) (ts : List Tree) (hit : Bool) (later : List ℕ) → (hit ≡ true) ↔ IsWrong S t → AreWrong S (suc from) ts later
    → AreWrong S from (t ∷ ts) ((if hit then from ∷ [] else []) ++ later)
wrong-front S from t ts true later w a = inl (w.0 refl, (later, a, refl))
wrong-front S from t ts false later w a = inr ((λ x. false≢true (w.1 x)), a)

same-name : (k l : Kind) (n m v w : List ℕ) (a b : Trees) → node k n v a ≡ node l m w b → (n ≡ m) × (a ≡ b)
same-name k l n m v w a b e = (cc, cc)

not_element : (S : Schema) (k : Kind) (n v : List ℕ) (a : Trees) → (k ≡ Element → ⊥) → IsWrong S (node k n v a) → ⊥
not_element S k n v a h w = h (let e = w.element in cc)

module _ (S : Schema) (few : length S ≤ 64) (table : List (Kind × List ℕ)) (c : Checking) (compiled : IsCompiled S table c) where
  sort-at : (f : ℕ) (kind : Kind) (name : List ℕ) → slice_get table f ≡ Some (kind, name) → get_or c.sorts f Other ≡ sort_of S kind name
  sort-at f kind name g = ap (λ s. get_or s f Other) compiled.sorts ∙ in_table S kind name table f g

  -- an element before a chain
  knows-element : (f : ℕ) (name : List ℕ) → slice_get table f ≡ Some (Element, name) → (rest : Chain) (names : List (List ℕ)) → Knows S c.rows rest names → Knows S c.rows (behind c.rows f rest) (name ∷ names)
  knows-element f name g rest names k = record {
    ended = (λ e. absurd (false≢true (sym (not_ended c.rows f rest) ∙ e)), λ e. absurd (cons_nil name names e));
    marked = λ i x e.
        let sets = sets_of c.rows rest in
        let ended = has_ended rest in
        let new = marks (get_or (sets_of c.rows (behind c.rows f rest)) i 0) in
        reads x.1 name 0 (marks (get_or sets i 0)) new ended IsEnd names
        (subst (λ bs. Agree 0 bs new) (places-read name x.1 0 to_end (get_or sets i 0) ended)
        (agree-same (map (takes name (get_or sets i 0) ended) (places_of 0 x.1 to_end)) 0 (λ p. any_place name (is_next sets ended i p) i 0 (places_of 0 x.1 to_end)) new
        (λ p l. behind-marks c.rows f rest i p (omega (arith, few, within S i x e)) ∙ compiled.rows f name g (is_next sets ended i p) ∙ at-model name sets ended S 0 i i p x e (omega arith))
        (places-agree name sets ended (places_of 0 x.1 to_end) i 0)))
        k.ended (k.marked i x e);
  } where
    cons_nil : (n : List ℕ) (ns : List (List ℕ)) → n ∷ ns ≡ [] → ⊥
    cons_nil n ns e = cc

  -- what is known of a coded chain is right
  knows-chain : (ts : Trees) (term : Term) → Codes table ts term → Knows S c.rows (up (checking_algebra c) term []) (element_names ts)
  knows-chain none term e = subst (λ t. Knows S c.rows (up (checking_algebra c) t []) []) (sym e) (knows-nothing S c.rows)
  knows-chain (more (node kind name value kids) ts) term (f, below, rest, g, cb, cr, e) =
      subst (λ t. Knows S c.rows (up (checking_algebra c) t []) (element_names (more (node kind name value kids) ts))) (sym e)
      (subst (λ s. Knows S c.rows (known_at c.rows s f (up (checking_algebra c) rest [])) (element_names (more (node kind name value kids) ts))) (sym (sort-at f kind name g))
      (at_kind kind g (knows-chain ts rest cr))) where
        at_kind : (k : Kind) → slice_get table f ≡ Some (k, name) → Knows S c.rows (up (checking_algebra c) rest []) (element_names ts)
            → Knows S c.rows (known_at c.rows (sort_of S k name) f (up (checking_algebra c) rest [])) (element_names (more (node k name value kids) ts))
        at_kind Element h k = subst (λ r. Knows S c.rows r (name ∷ element_names ts)) (sym (ruled-reads c.rows f (up (checking_algebra c) rest []) S name)) (knows-element f name h (up (checking_algebra c) rest []) (element_names ts) k)
        at_kind Document h k = k
        at_kind Attribute h k = k
        at_kind Text h k = k
        at_kind Comment h k = k
        at_kind Instruction h k = k

  counted : (ts : Trees) (term : Term) → Codes table ts term → nodes_in term ≡ length (nodes_all ts)
  counted none term e = ap nodes_in e
  counted (more (node kind name value kids) ts) term (f, below, rest, g, cb, cr, e) =
      let b = counted kids below cb in let r = counted ts rest cr in
      ap nodes_in e ∙ omega (arith, b, r, length-append (nodes_all kids) (nodes_all ts))

  -- whether an element is wrong is told by the state of its kids
  judged : (name : List ℕ) (kids : Chain) (names : List (List ℕ)) → Knows S c.rows kids names
      → (is_wrong c (ruled_from 0 S name) kids ≡ true) ↔ ((m : Model) × (model_of S name ≡ Some m) × (Matches m names → ⊥))
  judged name kids names k = by_rule (ruled S 0 name) where
    by_rule : Rules S 0 name → (is_wrong c (ruled_from 0 S name) kids ≡ true) ↔ ((m : Model) × (model_of S name ≡ Some m) × (Matches m names → ⊥))
    by_rule (inl (r, h)) =
        (λ e. absurd (false≢true (sym (ap (λ s. is_wrong c s kids) r) ∙ e)), λ (m, g, w). absurd (none_model m (sym h ∙ g)))
    by_rule (inr (i, x, g, r, h)) = (there, back) where
      set : ℕ
      set = get_or (sets_of c.rows kids) i 0

      fits : (leads (way_of 0 x.1 to_end) set (has_ended kids) ≡ true) ↔ Matches x.1 names
      fits = missed names (has_ended kids) k.ended x.1 set (k.marked i x g)

      here : 0 + i ≡ i
      here = omega arith

      same : is_wrong c (ruled_from 0 S name) kids ≡ not (leads (way_of 0 x.1 to_end) set (has_ended kids))
      same = ap (λ s. is_wrong c s kids) (r ∙ ap Ruled here) ∙ ap (λ w. not (leads w set (has_ended kids))) (ap (λ fs. get_or fs i to_end) compiled.fronts ∙ front-at S i x g)

      there : is_wrong c (ruled_from 0 S name) kids ≡ true → (m : Model) × (model_of S name ≡ Some m) × (Matches m names → ⊥)
      there e = (x.1, h, λ w. false≢true (sym (not-true (leads (way_of 0 x.1 to_end) set (has_ended kids)) (sym same ∙ e)) ∙ fits.1 w))

      back : (m : Model) × (model_of S name ≡ Some m) × (Matches m names → ⊥) → is_wrong c (ruled_from 0 S name) kids ≡ true
      back ((m, o, w)) =
          same ∙ ap not (false_from_ne_true (leads (way_of 0 x.1 to_end) set (has_ended kids)) (λ l. w (subst (λ z. Matches z names) (model_same x.1 m (sym h ∙ o)) (fits.0 l))))

  element_wrong : (name value : List ℕ) (kids : Trees) (known : Chain) → Knows S c.rows known (element_names kids) → (is_wrong c (ruled_from 0 S name) known ≡ true) ↔ IsWrong S (node Element name value kids)
  element_wrong name value kids known k = (there, back) where
    rule : (is_wrong c (ruled_from 0 S name) known ≡ true) ↔ ((m : Model) × (model_of S name ≡ Some m) × (Matches m (element_names kids) → ⊥))
    rule = judged name known (element_names kids) k

    there : is_wrong c (ruled_from 0 S name) known ≡ true → IsWrong S (node Element name value kids)
    there h = let r = rule.0 h in record { name = name; value = value; kids = kids; model = r.0; element = refl; given = r.1; other = r.2 }

    back : IsWrong S (node Element name value kids) → is_wrong c (ruled_from 0 S name) known ≡ true
    back w =
        let same = same-name Element Element name w.name value w.value kids w.kids w.element in
        rule.1 (w.model, ap (model_of S) same.0 ∙ w.given, λ h. w.other (subst (λ z. Matches w.model (element_names z)) same.1 h))

  node_wrong : (kind : Kind) (name value : List ℕ) (kids : Trees) (known : Chain) → Knows S c.rows known (element_names kids) → (is_wrong c (sort_of S kind name) known ≡ true) ↔ IsWrong S (node kind name value kids)
  node_wrong Element name value kids known k = element_wrong name value kids known k
  node_wrong Document name value kids known k = (λ e. absurd (false≢true e), λ w. absurd (not_element S Document name value kids (λ e. cc) w))
  node_wrong Attribute name value kids known k = (λ e. absurd (false≢true e), λ w. absurd (not_element S Attribute name value kids (λ e. cc) w))
  node_wrong Text name value kids known k = (λ e. absurd (false≢true e), λ w. absurd (not_element S Text name value kids (λ e. cc) w))
  node_wrong Comment name value kids known k = (λ e. absurd (false≢true e), λ w. absurd (not_element S Comment name value kids (λ e. cc) w))
  node_wrong Instruction name value kids known k = (λ e. absurd (false≢true e), λ w. absurd (not_element S Instruction name value kids (λ e. cc) w))

  -- the hits are the wrong elements
  pub hits-wrong : (ts : Trees) (term : Term) → Codes table ts term → (from : ℕ) (d : OneState) → AreWrong S from (nodes_all ts) (hits_from (checking_algebra c) (checking_downward c) from term [] d)
  hits-wrong none term e from d = ap (λ t. hits_from (checking_algebra c) (checking_downward c) from t [] d) e
  hits-wrong (more (node kind name value kids) ts) term (f, below, rest, g, cb, cr, e) from d =
      subst (λ t. AreWrong S from (nodes_all (more (node kind name value kids) ts)) (hits_from (checking_algebra c) (checking_downward c) from t [] d)) (sym e)
      (wrong-front S from (node kind name value kids) (nodes_all kids ++ nodes_all ts) (is_wrong c (get_or c.sorts f Other) (up (checking_algebra c) below []))
      (hits_from (checking_algebra c) (checking_downward c) (suc from) below [] d ++ hits_from (checking_algebra c) (checking_downward c) (suc from + nodes_in below) rest [] d)
      (subst (λ s. (is_wrong c s (up (checking_algebra c) below []) ≡ true) ↔ IsWrong S (node kind name value kids)) (sym (sort-at f kind name g))
      (node_wrong kind name value kids (up (checking_algebra c) below []) (knows-chain kids below cb)))
      (wrong-append S (suc from) (nodes_all kids) (nodes_all ts) (hits_from (checking_algebra c) (checking_downward c) (suc from) below [] d) (hits_from (checking_algebra c) (checking_downward c) (suc from + nodes_in below) rest [] d)
      (hits-wrong kids below cb (suc from) d)
      (subst (λ k. AreWrong S (suc from + k) (nodes_all ts) (hits_from (checking_algebra c) (checking_downward c) (suc from + nodes_in below) rest [] d)) (counted kids below cb)
      (hits-wrong ts rest cr (suc from + nodes_in below) d))))
