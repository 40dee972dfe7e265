-- Stacks of parts that calls made.
use Rattle.std.proofs.Common.{◌≡◌, ℕ, true, List, [], ◌∷◌, ◌++◌, Some, slice_get, refl, ap, sym, ◌∙◌, subst, append_assoc, append-nil, length, arith}
use Rattle.std.specs.Prelude.{None}
use Rattle.plain_tree.specs.declared.kind.Kind.{Kind}
use Rattle.plain_tree.specs.declared.kind.Kind.TheVariants as kind
use Rattle.plain_tree.specs.Numbers.{has_value}
use Rattle.plain_tree.specs.Tree.{Tree, node, Trees, none, more}
use Rattle.slt_grammar.specs.Terms.{Term, Leaf, Node}
use Rattle.slt_grammar.specs.Coding.{Codes}
use Rattle.xml_nodes.specs.Machine.{Event, Opened, Leaf as LeafEvent, Closed, events, events_all, IsShaped}
use Rattle.fcns_encoding.specs.Calls.{event_texts, event_pairs, begun_pairs, started_pairs}
use Rattle.fcns_encoding.specs.Folding.{Builds, Tells, Taking, Taken, kids_of}
use Rattle.fcns_encoding.specs.Interning.{Pair, Interns, tree_pair}
use Rattle.fcns_encoding.specs.declared.part.Part.{Part}
use Rattle.fcns_encoding.specs.declared.part.Part.TheVariants.{Begun, Whole}
use Rattle.fcns_encoding.proofs.EventLemmas.{events-append, events_all-append, texts-append, pairs-append, begun-push, leaf-events, leaf-shaped}
use Rattle.fcns_encoding.proofs.InternLemmas.{KeepsPlaces, Codes-keeps}

-- each number of the one list of terms has its term in the other
abbrev pub Keeps : List Term → List Term → Type 0
Keeps old new = (i : ℕ) (t : Term) → slice_get old i ≡ Some t → slice_get new i ≡ Some t

pub Builds-keeps : (names names' : List Pair) (terms terms' : List Term) → KeepsPlaces names names' → Keeps terms terms' → (parts : List Part) (log : List Event) → Builds names terms parts log → Builds names' terms' parts log
Builds-keeps names names' terms terms' k l [] log b = b
Builds-keeps names names' terms terms' k l (Begun symbol ∷ parts) log b =
    (b.0, b.1, k symbol (kind.Element, b.0) b.2, b.3, Builds-keeps names names' terms terms' k l parts b.1 b.4)
Builds-keeps names names' terms terms' k l (Whole symbol below ∷ parts) log b =
    (b.0, b.1, b.2, b.3, k symbol (tree_pair b.0) b.4, l below b.1 b.5, Codes-keeps names names' k (kids_of b.0) b.1 b.6, b.7, Builds-keeps names names' terms terms' k l parts b.2 b.8)

module _ (names : List Pair) (terms : List Term) where
  pub Builds-append : (xs ys : List Part) (a b : List Event) → Builds names terms xs a → Builds names terms ys b → Builds names terms (xs ++ ys) (a ++ b)
  Builds-append [] ys a b h g = subst (λ l. Builds names terms ys (l ++ b)) (sym h) g
  Builds-append (Begun symbol ∷ xs) ys a b h g =
      (h.0, h.1 ++ b, h.2, ap (λ es. es ++ b) h.3, Builds-append xs ys h.1 b h.4 g)
  Builds-append (Whole symbol below ∷ xs) ys a b h g =
      (h.0, h.1, h.2 ++ b, h.3, h.4, h.5, h.6, ap (λ es. es ++ b) h.7 ∙ events-append h.0 h.2 b, Builds-append xs ys h.2 b h.8 g)

  -- the calls of two stacks, one upon the other
  pub record Split (xs ys : List Part) (log : List Event) : Type 0 where
    pub first : List Event
    pub second : List Event
    pub whole : log ≡ first ++ second
    pub below : Builds names terms xs first
    pub upon : Builds names terms ys second

  pub Builds-split : (xs ys : List Part) (log : List Event) → Builds names terms (xs ++ ys) log → Split xs ys log
  Builds-split [] ys log b = record { first = []; second = log; whole = refl; below = refl; upon = b }
  Builds-split (Begun symbol ∷ xs) ys log b =
      let s = Builds-split xs ys b.1 b.4 in record {
        first = Opened b.0 ∷ s.first;
        second = s.second;
        whole = b.3 ∙ ap (λ es. Opened b.0 ∷ es) s.whole;
        below = (b.0, s.first, b.2, refl, s.below);
        upon = s.upon;
      }
  Builds-split (Whole symbol below ∷ xs) ys log b =
      let s = Builds-split xs ys b.2 b.8 in record {
        first = events b.0 s.first;
        second = s.second;
        whole = b.7 ∙ ap (events b.0) s.whole ∙ sym (events-append b.0 s.first s.second);
        below = (b.0, b.1, s.first, b.3, b.4, b.5, b.6, refl, s.below);
        upon = s.upon;
      }

  -- an element more is begun
  pub Builds-begun : (parts : List Part) (log : List Event) (symbol : ℕ) (name : List ℕ) → Builds names terms parts log → slice_get names symbol ≡ Some (kind.Element, name)
      → Builds names terms (parts ++ Begun symbol ∷ []) (log ++ Opened name ∷ [])
  Builds-begun parts log symbol name b e = Builds-append parts (Begun symbol ∷ []) log (Opened name ∷ []) b (name, [], e, refl, refl)

  -- a node more is whole
  pub Builds-whole : (parts : List Part) (log : List Event) (symbol below : ℕ) (t : Tree) (term : Term) → Builds names terms parts log → slice_get names symbol ≡ Some (tree_pair t) → IsShaped t
      → slice_get terms below ≡ Some term → Codes names (kids_of t) term → Builds names terms (parts ++ Whole symbol below ∷ []) (log ++ events t [])
  Builds-whole parts log symbol below t term b e s v c =
      Builds-append parts (Whole symbol below ∷ []) log (events t []) b (t, term, [], s, e, v, c, refl, refl)

  pub Builds-leaf : (parts : List Part) (log : List Event) (symbol : ℕ) (k : Kind) (name value : List ℕ) → Builds names terms parts log → slice_get names symbol ≡ Some (k, name) → has_value k ≡ true
      → slice_get terms 0 ≡ Some Leaf → Builds names terms (parts ++ Whole symbol 0 ∷ []) (log ++ LeafEvent k name value ∷ [])
  Builds-leaf parts log symbol k name value b e l v =
      subst (λ es. Builds names terms (parts ++ Whole symbol 0 ∷ []) (log ++ es)) (leaf-events k name value [] l)
      (Builds-whole parts log symbol 0 (node k name value none) Leaf b e (leaf-shaped k name value l) v refl)

  -- nothing was taken yet
  pub taking_none : (parts : List Part) (log : List Event) → Builds names terms parts log → slice_get terms 0 ≡ Some Leaf → Taking names terms parts log 0
  taking_none parts log b v = record { front = log; kids = none; term = Leaf; shaped = tt; whole = sym (append-nil log); value = v; codes = refl; built = b }

  -- the part on top is an element that was begun
  pub taken_begun : (parts all : List Part) (log : List Event) (number symbol : ℕ) → all ≡ parts ++ Begun symbol ∷ [] → Taking names terms all log number → Taken names terms parts log number (Some symbol)
  taken_begun parts all log number symbol e w =
      let s = Builds-split parts (Begun symbol ∷ []) w.front (subst (λ ps. Builds names terms ps w.front) e w.built) in
      let u = s.upon in
      record {
        front = w.front;
        kids = w.kids;
        term = w.term;
        shaped = w.shaped;
        whole = w.whole;
        value = w.value;
        codes = w.codes;
        stood = (u.0, s.first, u.2, s.whole ∙ ap (λ es. s.first ++ es) (u.3 ∙ ap (λ es. Opened u.0 ∷ es) u.4), s.below);
      }

  pub taken_all : (parts all : List Part) (log : List Event) (number : ℕ) → all ≡ parts ++ [] → length parts ≡ 0 → Taking names terms all log number → Taken names terms parts log number None
  taken_all [] all log number e n w =
      record {
        front = w.front;
        kids = w.kids;
        term = w.term;
        shaped = w.shaped;
        whole = w.whole;
        value = w.value;
        codes = w.codes;
        stood = (refl, subst (λ ps. Builds names terms ps w.front) e w.built);
      }
  taken_all (p ∷ parts) all log number e n w = absurd (omega (arith, n))

  -- the part on top is whole
  pub record Top (parts : List Part) (log : List Event) (number symbol below : ℕ) : Type 0 where
    pub a : Term
    pub b : Term
    pub first : slice_get terms below ≡ Some a
    pub second : slice_get terms number ≡ Some b
    pub goes : (terms' : List Term) (number' : ℕ) → Keeps terms terms' → slice_get terms' number' ≡ Some (Node symbol a b) → Taking names terms' parts log number'

  pub top_whole : (parts all : List Part) (log : List Event) (number symbol below : ℕ) → all ≡ parts ++ Whole symbol below ∷ [] → Taking names terms all log number → Top parts log number symbol below
  top_whole parts all log number symbol below e w =
      let s = Builds-split parts (Whole symbol below ∷ []) w.front (subst (λ ps. Builds names terms ps w.front) e w.built) in
      let u = s.upon in
      record {
        a = u.1;
        b = w.term;
        first = u.5;
        second = w.value;
        goes = λ terms' number' keeps is. record {
          front = s.first;
          kids = more u.0 w.kids;
          term = Node symbol u.1 w.term;
          shaped = (u.3, w.shaped);
          whole = w.whole ∙ ap (λ es. es ++ events_all w.kids []) (s.whole ∙ ap (λ es. s.first ++ es) (u.7 ∙ ap (events u.0) u.8))
              ∙ append_assoc s.first (events u.0 []) (events_all w.kids []) ∙ ap (λ es. s.first ++ es) (events-append u.0 [] (events_all w.kids []));
          value = is;
          codes = codes_more u.0 w.kids symbol u.1 w.term u.4 u.6 w.codes;
          built = Builds-keeps names names terms terms' (λ i p h. h) keeps parts s.first s.below;
        };
      }
    where
      codes_more : (t : Tree) (ts : Trees) (symbol : ℕ) (x y : Term) → slice_get names symbol ≡ Some (tree_pair t) → Codes names (kids_of t) x → Codes names ts y → Codes names (more t ts) (Node symbol x y)
      codes_more (node k n v ks) ts symbol x y e c d = (symbol, x, y, e, c, d, refl)

  -- the element around the kids is whole
  pub closed : (parts : List Part) (log : List Event) (number symbol : ℕ) → Taken names terms parts log number (Some symbol) → Builds names terms (parts ++ Whole symbol number ∷ []) (log ++ Closed ∷ [])
  closed parts log number symbol w =
      let s = w.stood in
      let t : Tree = node kind.Element s.0 [] w.kids in
      let is : log ++ Closed ∷ [] ≡ s.1 ++ events t [] =
      ap (λ es. es ++ Closed ∷ []) (w.whole ∙ ap (λ es. es ++ events_all w.kids []) s.3 ∙ append_assoc s.1 (Opened s.0 ∷ []) (events_all w.kids []))
      ∙ append_assoc s.1 (Opened s.0 ∷ events_all w.kids []) (Closed ∷ []) ∙ ap (λ es. s.1 ++ Opened s.0 ∷ es) (events_all-append w.kids [] (Closed ∷ [])) in
      subst (λ es. Builds names terms (parts ++ Whole symbol number ∷ []) es) (sym is)
      (Builds-whole parts s.1 symbol number t w.term s.4 s.2 (refl, w.shaped) w.value w.codes)

-- The whole of what is told.
module _ (names : List Pair) (terms : List Term) (texts : List (List ℕ)) (stack : List Part) (log : List Event) (w : Tells names terms texts stack log) where
  pub tells_open : (names' : List Pair) (k : Kind) (name : List ℕ) (symbol : ℕ) (stack' : List Part) → k ≡ kind.Element → KeepsPlaces names names' → Interns [] (started_pairs log ++ (k, name) ∷ []) names'
      → slice_get names' symbol ≡ Some (k, name) → stack' ≡ stack ++ Begun symbol ∷ [] → Tells names' terms texts stack' (log ++ Opened name ∷ [])
  tells_open names' k name symbol stack' is keeps named place e = record {
    named = subst (λ ps. Interns [] ps names') (sym (begun-push log (Opened name))) (subst (λ j. Interns [] (started_pairs log ++ (j, name) ∷ []) names') is named);
    texts = w.texts ∙ sym (texts-append log (Opened name ∷ []) ∙ append-nil (event_texts log));
    built = subst (λ ps. Builds names' terms ps (log ++ Opened name ∷ [])) (sym e)
        (Builds-begun names' terms stack log symbol name (Builds-keeps names names' terms terms keeps (λ i t h. h) stack log w.built) (subst (λ j. slice_get names' symbol ≡ Some (j, name)) is place));
  }

  pub tells_leaf : (names' : List Pair) (k : Kind) (name value : List ℕ) (symbol : ℕ) (stack' : List Part) (texts' : List (List ℕ)) → has_value k ≡ true → slice_get terms 0 ≡ Some Leaf → KeepsPlaces names names'
      → Interns [] (started_pairs log ++ (k, name) ∷ []) names' → slice_get names' symbol ≡ Some (k, name) → texts' ≡ texts ++ value ∷ [] → stack' ≡ stack ++ Whole symbol 0 ∷ []
      → Tells names' terms texts' stack' (log ++ LeafEvent k name value ∷ [])
  tells_leaf names' k name value symbol stack' texts' leaf zero keeps named place x e = record {
    named = subst (λ ps. Interns [] ps names') (sym (begun-push log (LeafEvent k name value))) named;
    texts = x ∙ ap (λ vs. vs ++ value ∷ []) w.texts ∙ sym (texts-append log (LeafEvent k name value ∷ []));
    built = subst (λ ps. Builds names' terms ps (log ++ LeafEvent k name value ∷ [])) (sym e)
        (Builds-leaf names' terms stack log symbol k name value (Builds-keeps names names' terms terms keeps (λ i t h. h) stack log w.built) place leaf zero);
  }

  pub tells_closed : (terms' : List Term) (parts stack' : List Part) (number symbol : ℕ) → Taken names terms' parts log number (Some symbol) → stack' ≡ parts ++ Whole symbol number ∷ []
      → Tells names terms' texts stack' (log ++ Closed ∷ [])
  tells_closed terms' parts stack' number symbol t e = record {
    named = close_named log (t.whole ∙ ap (λ es. es ++ events_all t.kids []) t.stood.3) w.named;
    texts = w.texts ∙ sym (texts-append log (Closed ∷ []) ∙ append-nil (event_texts log));
    built = subst (λ ps. Builds names terms' ps (log ++ Closed ∷ [])) (sym e) (closed names terms' parts log number symbol t);
  }
    where
      opens : (es front : List Event) (n : List ℕ) → es ≡ (front ++ Opened n ∷ []) ++ events_all t.kids [] → es ≡ [] → ⊥
      opens es [] n a b = cc
      opens es (f ∷ front) n a b = cc

      close_named : (es : List Event) → es ≡ (t.stood.1 ++ Opened t.stood.0 ∷ []) ++ events_all t.kids [] → Interns [] (begun_pairs es) names → Interns [] (begun_pairs (es ++ Closed ∷ [])) names
      close_named [] a h = absurd (opens [] t.stood.1 t.stood.0 a refl)
      close_named (f ∷ es) a h = subst (λ ps. Interns [] ((kind.Document, []) ∷ ps) names) (sym (pairs-append (f ∷ es) (Closed ∷ []) ∙ append-nil (event_pairs (f ∷ es)))) h
