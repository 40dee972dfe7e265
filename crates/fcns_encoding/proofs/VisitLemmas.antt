-- A code that grows with the visits of a walk.
use Rattle.std.proofs.Common.{◌≡◌, ℕ, zero, suc, List, [], ◌∷◌, ◌++◌, map, take, refl, ap, sym, ◌∙◌, subst, append_assoc, append-nil}
use Rattle.std.proofs.lemmas.List.{map-append}
use Rattle.rule_arena.specs.declared.label.Label.{Label}
use Rattle.rule_arena.specs.declared.label.Label.TheVariants.{Bottom, Symbol}
use Rattle.plain_tree.specs.Tree.{Tree, node, Trees, none, more}
use Rattle.plain_tree.specs.Numbers.{nodes, values_of, texts}
use Rattle.plain_tree.specs.Visits.{TreeVisit, Opened, Closed, visits, all_visits_then, opened}
use Rattle.plain_tree.proofs.WalkLemmas.{opened-visits}
use Rattle.slt_grammar.specs.Terms.{Term, Leaf, Node}
use Rattle.slt_grammar.specs.Coding.{CodesTo}
use Rattle.slt_grammar.proofs.Standing.{values_of-append}
use Rattle.fcns_encoding.specs.Labels.{term_labels}
use Rattle.fcns_encoding.specs.Interning.{Pair, Interns, tree_pair, pairs_of_tree}
use Rattle.fcns_encoding.specs.Visiting.{IsLabelOf, Spelled, Grows, list_visits, texts_at, pairs_at}
use Rattle.fcns_encoding.proofs.InternLemmas.{KeepsPlaces, Interns-keeps, Interns-append}

label-keeps : (old new : List Pair) → KeepsPlaces old new → (v : TreeVisit) (label : Label) → IsLabelOf old v label → IsLabelOf new v label
label-keeps old new keeps (Opened t) label l = (l.0, keeps l.0 (tree_pair t) l.1, l.2)
label-keeps old new keeps (Closed t) label l = l

pub Spelled-keeps : (old new : List Pair) → KeepsPlaces old new → (vs : List TreeVisit) (ls : List Label) → Spelled old vs ls → Spelled new vs ls
Spelled-keeps old new keeps [] ls s = s
Spelled-keeps old new keeps (v ∷ vs) ls s = (s.0, s.1, label-keeps old new keeps v s.0 s.2, Spelled-keeps old new keeps vs s.1 s.3, s.4)

pub Spelled-append : (names : List Pair) (vs ws : List TreeVisit) (ls ks : List Label) → Spelled names vs ls → Spelled names ws ks → Spelled names (vs ++ ws) (ls ++ ks)
Spelled-append names [] ws ls ks s r = rw s r
Spelled-append names (v ∷ vs) ws ls ks s r = (s.0, s.1 ++ ks, s.2, Spelled-append names vs ws s.1 ks s.3 r, ap (λ js. js ++ ks) s.4)

-- Labels spell the visits of these nodes and then others: before the labels of a last term those of the nodes are a code.
record IsCoded (names : List Pair) (last : Term) (ts : Trees) (after : List TreeVisit) (ls : List Label) : Type 0 where
  term : Term
  front : List Label
  rest : List Label
  codes : CodesTo names last ts term
  labels : term_labels term ≡ front ++ term_labels last
  whole : ls ≡ front ++ rest
  spelled : Spelled names after rest

coded : (names : List Pair) (last : Term) (ts : Trees) (after : List TreeVisit) (ls : List Label) → Spelled names (all_visits_then ts after) ls → IsCoded names last ts after ls
coded names last none after ls s = record { term = last; front = []; rest = ls; codes = refl; labels = refl; whole = refl; spelled = s }
coded names last (more (node k n v ks) ts) after ls s =
    let a = coded names Leaf ks (Closed (node k n v ks) ∷ all_visits_then ts after) s.1 s.3 in
    let b = coded names last ts after a.spelled.1 a.spelled.3 in
    let ends : a.rest ≡ Bottom ∷ (b.front ++ b.rest) = a.spelled.4 ∙ ap (λ l. l ∷ a.spelled.1) a.spelled.2 ∙ ap (λ ls. Bottom ∷ ls) b.whole in
    let begins : ls ≡ Symbol s.2.0 ∷ s.1 = s.4 ∙ ap (λ l. l ∷ s.1) s.2.2 in
    record {
      term = Node s.2.0 a.term b.term;
      front = Symbol s.2.0 ∷ (a.front ++ Bottom ∷ b.front);
      rest = b.rest;
      codes = (s.2.0, a.term, b.term, s.2.1, a.codes, b.codes, refl);
      labels = rw (a.labels, b.labels) (simp append_assoc);
      whole = begins ∙ ap (λ ls. Symbol s.2.0 ∷ ls) (a.whole ∙ ap (λ ls. a.front ++ ls) ends ∙ sym (append_assoc a.front (Bottom ∷ b.front) b.rest));
      spelled = b.spelled;
    }

-- labels for the visits of a list of nodes, and then those of a last term, are the labels of its code before that term
pub spelled-codes : (names : List Pair) (last : Term) (ts : Trees) (body whole : List Label) → Spelled names (list_visits ts) body → whole ≡ body ++ term_labels last
    → (term : Term) × CodesTo names last ts term × (whole ≡ term_labels term)
spelled-codes names last ts body whole s e =
    let a = coded names last ts [] body s in
    let front : body ≡ a.front = a.whole ∙ ap (λ ls. a.front ++ ls) a.spelled ∙ append-nil a.front in
    (a.term, a.codes, e ∙ ap (λ ls. ls ++ term_labels last) front ∙ sym a.labels)

opened-append : (vs ws : List TreeVisit) → opened (vs ++ ws) ≡ opened vs ++ opened ws
opened-append [] ws = refl
opened-append (Opened t ∷ vs) ws = ap (λ ts. t ∷ ts) (opened-append vs ws)
opened-append (Closed t ∷ vs) ws = opened-append vs ws

take-second : (ys zs : List Pair) (k : ℕ) → (m : ℕ) × (take m (ys ++ zs) ≡ take k ys)
take-second [] zs zero = (0, refl)
take-second [] zs (suc k) = (0, refl)
take-second (y ∷ ys) zs zero = (0, refl)
take-second (y ∷ ys) zs (suc k) = let h = take-second ys zs k in (suc h.0, ap (λ ps. y ∷ ps) h.1)

take-inside : (xs ys zs : List Pair) (k : ℕ) → (m : ℕ) × (take m (xs ++ (ys ++ zs)) ≡ xs ++ take k ys)
take-inside [] ys zs k = take-second ys zs k
take-inside (x ∷ xs) ys zs k = let h = take-inside xs ys zs k in (suc h.0, ap (λ ps. x ∷ ps) h.1)

-- a first part was interned, and of a second part some of the first pairs
pub interned-front : (all front part back old mid now : List Pair) → all ≡ front ++ (part ++ back) → Interns old front mid → ((k : ℕ) × Interns mid (take k part) now)
    → (k : ℕ) × Interns old (take k all) now
interned-front all front part back old mid now e a (k, i) =
    let m = take-inside front part back k in
    let here : take m.0 all ≡ front ++ take k part = ap (take m.0) e ∙ m.1 in
    (m.0, rw here (Interns-append old mid now front (take k part) a i))

-- all pairs were interned
pub interned-all : (old pairs now : List Pair) → Interns old pairs now → (k : ℕ) × Interns old (take k pairs) now
interned-all old pairs now i = interned-front pairs pairs [] [] old now now (sym (append-nil pairs)) i (0, refl)

-- The visits up to here made these names, and labels and texts behind those that there were.
pub record IsEncoding (t : Tree) (left : List TreeVisit) (old now : List Pair) (first body : List Label) (before values : List (List ℕ)) : Type 0 where
  pub done : List TreeVisit
  pub whole : done ++ left ≡ visits t
  pub grown : Grows now done first body
  pub texts : values ≡ before ++ values_of (opened done)
  pub names : Interns old (map tree_pair (opened done)) now

pub encoding-begins : (t : Tree) (names : List Pair) (first : List Label) (before : List (List ℕ)) → IsEncoding t (visits t) names names first first before before
encoding-begins t names first before = record {
  done = [];
  whole = refl;
  grown = ([], refl, sym (append-nil first));
  texts = sym (append-nil before);
  names = refl;
}

module _ (t : Tree) (old mid : List Pair) (first body : List Label) (before values : List (List ℕ)) (left : List TreeVisit) (w : IsEncoding t left old mid first body before values) where
  -- one visit more
  pub encoding-goes : (v : TreeVisit) (vs : List TreeVisit) (now : List Pair) (body' : List Label) (values' : List (List ℕ)) → left ≡ v ∷ vs
      → ((label : Label) × IsLabelOf now v label × (body' ≡ body ++ label ∷ [])) → values' ≡ values ++ texts_at v → Interns mid (pairs_at v) now → IsEncoding t vs old now first body' before values'
  encoding-goes v vs now body' values' e (label, l, b) x i =
      let opens = opened-append w.done (v ∷ []) in
      let spelled = Spelled-keeps mid now (Interns-keeps mid (pairs_at v) now i) w.done w.grown.0 w.grown.1 in record {
        done = w.done ++ v ∷ [];
        whole = append_assoc w.done (v ∷ []) vs ∙ ap (λ us. w.done ++ us) (sym e) ∙ w.whole;
        grown = (
          w.grown.0 ++ label ∷ [],
          Spelled-append now w.done (v ∷ []) w.grown.0 (label ∷ []) spelled (label, [], l, refl, refl),
          b ∙ ap (λ ls. ls ++ label ∷ []) w.grown.2 ∙ append_assoc first w.grown.0 (label ∷ []),
        );
        texts = x ∙ ap (λ xs. xs ++ texts_at v) w.texts ∙ append_assoc before (values_of (opened w.done)) (texts_at v)
            ∙ ap (λ xs. before ++ xs) (sym (ap values_of opens ∙ values_of-append (opened w.done) (opened (v ∷ []))));
        names = rw (opens, map-append tree_pair (opened w.done) (opened (v ∷ []))) (Interns-append old mid now (map tree_pair (opened w.done)) (pairs_at v) w.names i);
      }

  -- the nodes that were opened, and those that were not yet
  opened-left : nodes t ≡ opened w.done ++ opened left
  opened-left = sym (opened-visits t) ∙ ap opened (sym w.whole) ∙ opened-append w.done left

  pub encoding-ends : left ≡ [] → Grows mid (visits t) first body × (values ≡ before ++ texts t) × Interns old (pairs_of_tree t) mid
  encoding-ends e =
      let all : opened w.done ≡ nodes t = sym (append-nil (opened w.done)) ∙ ap (λ us. opened w.done ++ opened us) (sym e) ∙ sym opened-left in
      let done : w.done ≡ visits t = sym (append-nil w.done) ∙ ap (λ us. w.done ++ us) (sym e) ∙ w.whole in
      (subst (λ vs. Grows mid vs first body) done w.grown, w.texts ∙ ap (λ ts. before ++ values_of ts) all, subst (λ ts. Interns old (map tree_pair ts) mid) all w.names)

  -- a refusal in the midst of a visit
  pub encoding-fails : (v : TreeVisit) (vs : List TreeVisit) (now : List Pair) → left ≡ v ∷ vs → ((k : ℕ) × Interns mid (take k (pairs_at v)) now) → (k : ℕ) × Interns old (take k (pairs_of_tree t)) now
  encoding-fails v vs now e i =
      let front : List Pair = map tree_pair (opened w.done) in
      let back : List Pair = map tree_pair (opened vs) in
      let opens : nodes t ≡ opened w.done ++ (opened (v ∷ []) ++ opened vs) = opened-left ∙ ap (λ us. opened w.done ++ opened us) e ∙ ap (λ ts. opened w.done ++ ts) (opened-append (v ∷ []) vs) in
      let pairs : pairs_of_tree t ≡ front ++ (pairs_at v ++ back) =
      ap (map tree_pair) opens ∙ map-append tree_pair (opened w.done) (opened (v ∷ []) ++ opened vs) ∙ ap (λ ps. front ++ ps) (map-append tree_pair (opened (v ∷ [])) (opened vs)) in
      interned-front (pairs_of_tree t) front (pairs_at v) back old mid now pairs w.names i

  -- a refusal between two visits
  pub encoding-stops : (k : ℕ) × Interns old (take k (pairs_of_tree t)) mid
  encoding-stops =
      let front : List Pair = map tree_pair (opened w.done) in
      let back : List Pair = map tree_pair (opened left) in
      let pairs : pairs_of_tree t ≡ front ++ back = ap (map tree_pair) opened-left ∙ map-append tree_pair (opened w.done) (opened left) in
      interned-front (pairs_of_tree t) front [] back old mid mid pairs w.names (0, refl)
