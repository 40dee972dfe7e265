-- A walk along the tour of a body, by keys, parents and the next node.
use Rattle.std.proofs.Common.{◌≡◌, ℕ, zero, suc, ◌+◌, ◌-◌, ◌<◌, ◌≤◌, List, [], ◌∷◌, ◌++◌, get_or, drop, refl, ap, sym, subst, ◌∙◌, arith, true, false, add-suc, suc-add, add-zero, add-one, zero-add, Option, Some, None}
use Rattle.std.specs.Prelude.{slice_get}
use Rattle.rule_arena.specs.Preorder.{parents, places}
use Rattle.rule_arena.specs.Terms.{Node, kids_of, key_of, key_in, parent_in}
use Rattle.rule_arena.specs.NodeKey.{NodeKey as Key}
use Rattle.slt_grammar.specs.Keyed.{KeyedRule, nodes_at, key_at}
use Rattle.slt_grammar.specs.Segments.{node_tour}
use Rattle.slt_grammar.specs.Tours.{Stop, stop, opened_kids, once_closed, entered, tour, behind, tour_from}
use Rattle.slt_grammar.specs.TourWalks.{StandsBefore, StandsBehindSkipped, AreBehindChildren, behind_node, rest_of}
use Rattle.slt_grammar.specs.declared.tour_walk.TourWalk.{TourWalk}

pub key-node : (ns : List Node) (p : ℕ) (key : Key) → key_in ns p ≡ Some key → (x : Node) × (slice_get ns p ≡ Some x) × (x.key ≡ key)
key-node [] p key e = cc
key-node (n ∷ ns) zero key e = let f : Some n.key ≡ Some key = e in (n, refl, cc)
key-node (n ∷ ns) (suc p) key e = key-node ns p key e

no-key : (ns : List Node) (p : ℕ) → key_in ns p ≡ None → slice_get ns p ≡ None
no-key [] p e = refl
no-key (n ∷ ns) zero e = cc
no-key (n ∷ ns) (suc p) e = no-key ns p e

pub node-key : (ns : List Node) (p : ℕ) (x : Node) → slice_get ns p ≡ Some x → key_in ns p ≡ Some x.key
node-key [] p x e = cc
node-key (n ∷ ns) zero x e = let f : Some n ≡ Some x = e in let g : n ≡ x = cc in ap (λ (y : Node). Some y.key) g
node-key (n ∷ ns) (suc p) x e = node-key ns p x e

pub tour_from-there : {X : Type 0} (ar : X → ℕ) (afters : List (List (Stop X))) (xs : List X) (p : ℕ) (x : X) → slice_get xs p ≡ Some x
    → tour_from ar afters xs p ≡ stop x 0 ∷ (once_closed (ar x) (get_or (behind ar afters xs) p []) ++ tour_from ar afters xs (suc p))
tour_from-there ar afters [] p x e = cc
tour_from-there ar afters (y ∷ []) zero x e = let f : Some y ≡ Some x = e in let g : y ≡ x = cc in rw g refl
tour_from-there ar afters (y ∷ z ∷ xs) zero x e = let f : Some y ≡ Some x = e in let g : y ≡ x = cc in rw g refl
tour_from-there ar afters (y ∷ xs) (suc p) x e = tour_from-there ar (entered ar y afters) xs p x e

tour_from-past : {X : Type 0} (ar : X → ℕ) (afters : List (List (Stop X))) (xs : List X) (p : ℕ) → slice_get xs p ≡ None → tour_from ar afters xs p ≡ []
tour_from-past ar afters [] zero e = refl
tour_from-past ar afters [] (suc p) e = refl
tour_from-past ar afters (y ∷ xs) zero e = cc
tour_from-past ar afters (y ∷ xs) (suc p) e = tour_from-past ar (entered ar y afters) xs p e

tour_from-start : {X : Type 0} (ar : X → ℕ) (afters : List (List (Stop X))) (xs : List X) → tour_from ar afters xs 0 ≡ tour ar afters xs
tour_from-start ar afters [] = refl
tour_from-start ar afters (x ∷ xs) = refl

get_or-drop_one : {Y : Type 0} (ys : List Y) (i : ℕ) (d : Y) → get_or (drop 1 ys) i d ≡ get_or ys (suc i) d
get_or-drop_one [] i d = refl
get_or-drop_one (y ∷ ys) i d = refl

module _ (ns : List Node) (table : List (List (Stop Node))) where
  -- the parent of an open term and its place there, and the stops behind the term
  abbrev pub Matches : Option (Key × ℕ) → List (Stop Node) → Type 0
  Matches None after = after ≡ []
  Matches (Some up) after = (q : ℕ) × (x : Node) × (slice_get ns q ≡ Some x) × (x.key ≡ up.0) × (up.1 ≤ x.kids) × (after ≡ stop x up.1 ∷ once_closed (x.kids - up.1) (get_or table q []))

  abbrev AreMatched : List (Option (Key × ℕ)) → List (List (Stop Node)) → Type 0
  AreMatched ups afters = (i : ℕ) → Matches (get_or ups i None) (get_or afters i [])

  opened_kids-matched : (here : ℕ) (x : Node) (a : List (Stop Node)) → slice_get ns here ≡ Some x → get_or table here [] ≡ a
      → (n c : ℕ) → c + n ≡ suc x.kids → (ups : List (Option (Key × ℕ))) (afters : List (List (Stop Node))) → AreMatched ups afters
      → AreMatched (places x.key c n ++ ups) (opened_kids x c n a ++ afters)
  opened_kids-matched here x a h t zero c e ups afters m i = m i
  opened_kids-matched here x a h t (suc zero) c e ups afters m zero =
      let z : x.kids - c ≡ 0 = omega arith in
      (here, x, h, refl, omega arith, ap (λ b. stop x c ∷ b) (sym t ∙ sym (ap (λ k. once_closed k (get_or table here [])) z)))
  opened_kids-matched here x a h t (suc zero) c e ups afters m (suc i) = m i
  opened_kids-matched here x a h t (suc (suc n)) c e ups afters m zero =
      let z : x.kids - c ≡ suc n = omega arith in
      (here, x, h, refl, omega arith, ap (λ b. stop x c ∷ b) (sym (ap (λ k. once_closed k (get_or table here [])) z)))
  opened_kids-matched here x a h t (suc (suc n)) c e ups afters m (suc i) = opened_kids-matched here x a h t (suc n) (suc c) (omega arith) ups afters m i

  dropped-matched : (ups : List (Option (Key × ℕ))) (afters : List (List (Stop Node))) → AreMatched ups afters → AreMatched (drop 1 ups) (drop 1 afters)
  dropped-matched ups afters m i = rw (get_or-drop_one ups i None, get_or-drop_one afters i []) (m (suc i))

  -- the tables of parents and of the stops behind
  pub parents-matched : (here : ℕ) (ups : List (Option (Key × ℕ))) (afters : List (List (Stop Node))) (xs : List Node)
      → ((j : ℕ) → slice_get ns (here + j) ≡ slice_get xs j) → ((j : ℕ) → get_or table (here + j) [] ≡ get_or (behind kids_of afters xs) j [])
      → AreMatched ups afters → (p : ℕ) → Matches (get_or (parents kids_of key_of ups xs) p None) (get_or (behind kids_of afters xs) p [])
  parents-matched here ups afters [] hx ha m p = refl
  parents-matched here ups afters (x ∷ xs) hx ha m zero = m 0
  parents-matched here ups afters (x ∷ xs) hx ha m (suc p) =
      let a : List (Stop Node) = get_or afters 0 [] in
      let h : slice_get ns here ≡ Some x = rw add-zero at (hx 0) in
      let t : get_or table here [] ≡ a = rw add-zero at (ha 0) in
      parents-matched (suc here) (places x.key 1 x.kids ++ drop 1 ups) (entered kids_of x afters) xs
      (λ j. rw (suc-add here j, ← add-suc here j) (hx (suc j)))
      (λ j. rw (suc-add here j, ← add-suc here j) (ha (suc j)))
      (opened_kids-matched here x a h t x.kids 1 (omega arith) (drop 1 ups) (drop 1 afters) (dropped-matched ups afters m)) p

abbrev behind_nodes : List KeyedRule → ℕ → List (List (Stop Node))
behind_nodes G r = behind kids_of ([] ∷ []) (nodes_at G r)

matched-at : (G : List KeyedRule) (r p : ℕ) → Matches (nodes_at G r) (behind_nodes G r) (parent_in (nodes_at G r) p) (behind_node G r p)
matched-at G r p = parents-matched (nodes_at G r) (behind_nodes G r) 0 (None ∷ []) ([] ∷ []) (nodes_at G r) (λ j. rw (zero-add j) refl) (λ j. rw (zero-add j) refl) at_root p
  where
    at_root : (i : ℕ) → Matches (nodes_at G r) (behind_nodes G r) (get_or (None ∷ []) i None) (get_or ([] ∷ []) i [])
    at_root zero = refl
    at_root (suc i) = refl

-- what a parent says of the stops behind
behind-child : (G : List KeyedRule) (r p : ℕ) (key : Key) (k : ℕ) → parent_in (nodes_at G r) p ≡ Some (key, k)
    → (q : ℕ) × (x : Node) × (slice_get (nodes_at G r) q ≡ Some x) × (x.key ≡ key) × (k ≤ x.kids) × (behind_node G r p ≡ stop x k ∷ once_closed (x.kids - k) (behind_node G r q))
behind-child G r p key k e = rw e at (matched-at G r p)

behind-root : (G : List KeyedRule) (r p : ℕ) → parent_in (nodes_at G r) p ≡ None → behind_node G r p ≡ []
behind-root G r p e = rw e at (matched-at G r p)

-- the stops behind the nodes of a rule are behind children
module _ (G : List KeyedRule) (r : ℕ) where
  abbrev AllBehind : List (List (Stop Node)) → Type 0
  AllBehind afters = (i : ℕ) → AreBehindChildren G r (get_or afters i [])

  once_closed-behind : (n : ℕ) (a : List (Stop Node)) → AreBehindChildren G r a → AreBehindChildren G r (once_closed n a)
  once_closed-behind zero a b = b
  once_closed-behind (suc n) a b = tt

  opened_kids-behind : (p : ℕ) (x : Node) → slice_get (nodes_at G r) p ≡ Some x → (a : List (Stop Node)) → AreBehindChildren G r a → (afters : List (List (Stop Node))) → AllBehind afters
      → (n c : ℕ) → 0 < c → c + n ≡ suc x.kids → AllBehind (opened_kids x c n a ++ afters)
  opened_kids-behind p x h a b afters m zero c l e i = m i
  opened_kids-behind p x h a b afters m (suc zero) c l e zero = (record { place = p; there = h; later = l; within = omega arith }, b)
  opened_kids-behind p x h a b afters m (suc zero) c l e (suc i) = m i
  opened_kids-behind p x h a b afters m (suc (suc n)) c l e zero = (record { place = p; there = h; later = l; within = omega arith }, tt)
  opened_kids-behind p x h a b afters m (suc (suc n)) c l e (suc i) = opened_kids-behind p x h a b afters m (suc n) (suc c) (omega arith) (omega arith) i

  all-behind : (here : ℕ) (afters : List (List (Stop Node))) (xs : List Node) → ((j : ℕ) → slice_get (nodes_at G r) (here + j) ≡ slice_get xs j) → AllBehind afters
      → (p : ℕ) → AreBehindChildren G r (get_or (behind kids_of afters xs) p [])
  all-behind here afters [] hx m p = tt
  all-behind here afters (x ∷ xs) hx m zero = m 0
  all-behind here afters (x ∷ xs) hx m (suc p) =
      let h : slice_get (nodes_at G r) here ≡ Some x = rw add-zero at (hx 0) in
      let others : AllBehind (drop 1 afters) = λ i. rw (get_or-drop_one afters i []) (m (suc i)) in
      all-behind (suc here) (entered kids_of x afters) xs (λ j. rw (suc-add here j, ← add-suc here j) (hx (suc j)))
      (opened_kids-behind here x h (get_or afters 0 []) (m 0) (drop 1 afters) others x.kids 1 (omega arith) (omega arith)) p

  pub node-behind : (p : ℕ) → AreBehindChildren G r (behind_node G r p)
  node-behind p = all-behind 0 ([] ∷ []) (nodes_at G r) (λ j. rw (zero-add j) refl) none p
    where
      none : AllBehind ([] ∷ [])
      none zero = tt
      none (suc i) = tt

module _ (G : List KeyedRule) (r : ℕ) (walk : TourWalk) (m : Stop Node) (left : List (Stop Node)) (s : StandsBefore G r walk (m ∷ left)) where
  left-next : left ≡ once_closed (s.node.kids - walk.part) (behind_node G r s.place) ++ rest_of G r (suc s.last)
  left-next = let e = s.are_left in cc

  -- the stop at which the walk stands
  pub current : m ≡ stop s.node walk.part
  current = let e = s.are_left in cc

  pub stands-up : s.node.kids ≤ walk.part → (key : Key) (k : ℕ) → parent_in (nodes_at G r) s.place ≡ Some (key, k) → StandsBefore G r (record { key = key; part = k; last = walk.last }) left
  stands-up h key k e =
      let p = behind-child G r s.place key k e in
      let z : s.node.kids - walk.part ≡ 0 = omega arith in
      record {
        place = p.0;
        last = s.last;
        node = p.1;
        there = p.2;
        key = p.3;
        within = p.4;
        last_there = s.last_there;
        are_left = left-next ∙ ap (λ n. once_closed n (behind_node G r s.place) ++ rest_of G r (suc s.last)) z ∙ ap (λ a. a ++ rest_of G r (suc s.last)) p.5;
      }

  -- no stop is left before the next node
  pub record IsNextNew : Type 0 where
    pub none : once_closed (s.node.kids - walk.part) (behind_node G r s.place) ≡ []

  pub new-below : walk.part < s.node.kids → IsNextNew
  new-below h = by_difference (s.node.kids - walk.part) refl
    where
      by_difference : (n : ℕ) → s.node.kids - walk.part ≡ n → IsNextNew
      by_difference zero e = absurd (omega arith)
      by_difference (suc n) e = record { none = ap (λ k. once_closed k (behind_node G r s.place)) e }

  pub new-root : s.node.kids ≤ walk.part → parent_in (nodes_at G r) s.place ≡ None → IsNextNew
  new-root h e =
      let z : s.node.kids - walk.part ≡ 0 = omega arith in
      record { none = ap (λ k. once_closed k (behind_node G r s.place)) z ∙ behind-root G r s.place e }

  -- a walk to the next node
  next-node : (key : Key) → key_at G r (s.last + 1) ≡ Some key → StandsBefore G r (record { key = key; part = 0; last = key }) (rest_of G r (suc s.last))
  next-node key e =
      let f : key_at G r (suc s.last) ≡ Some key = rw (← add-one s.last) e in
      let x = key-node (nodes_at G r) (suc s.last) key f in
      let z : x.0.kids ≡ x.0.kids - 0 = omega arith in
      record {
        place = suc s.last;
        last = suc s.last;
        node = x.0;
        there = x.1;
        key = x.2;
        within = omega arith;
        last_there = f;
        are_left = tour_from-there kids_of ([] ∷ []) (nodes_at G r) (suc s.last) x.0 x.1 ∙ ap (λ k. stop x.0 0 ∷ (once_closed k (behind_node G r (suc s.last)) ++ rest_of G r (suc (suc s.last)))) z;
      }

  no-node : key_at G r (s.last + 1) ≡ None → rest_of G r (suc s.last) ≡ []
  no-node e =
      let f : key_at G r (suc s.last) ≡ None = rw (← add-one s.last) e in
      tour_from-past kids_of ([] ∷ []) (nodes_at G r) (suc s.last) (no-key (nodes_at G r) (suc s.last) f)

  left-new : IsNextNew → left ≡ rest_of G r (suc s.last)
  left-new n = left-next ∙ ap (λ a. a ++ rest_of G r (suc s.last)) n.none

  pub stands-next : IsNextNew → (key : Key) → key_at G r (s.last + 1) ≡ Some key → StandsBefore G r (record { key = key; part = 0; last = key }) left
  stands-next n key e = subst (λ (ms : List (Stop Node)). StandsBefore G r (record { key = key; part = 0; last = key }) ms) (sym (left-new n)) (next-node key e)

  pub stands-end : IsNextNew → key_at G r (s.last + 1) ≡ None → left ≡ []
  stands-end n e = left-new n ∙ no-node e

  -- past the stops that are left before that node
  skipped-behind : AreBehindChildren G r (once_closed (s.node.kids - walk.part) (behind_node G r s.place))
  skipped-behind = once_closed-behind G r (s.node.kids - walk.part) (behind_node G r s.place) (node-behind G r s.place)

  pub skips-to : (key : Key) → key_at G r (s.last + 1) ≡ Some key → StandsBehindSkipped true G r (record { key = key; part = 0; last = key }) left
  skips-to key e = record {
    skipped = once_closed (s.node.kids - walk.part) (behind_node G r s.place);
    rest = rest_of G r (suc s.last);
    split = left-next;
    are_behind = skipped-behind;
    stands = next-node key e;
  }

  pub skips-all : (after : TourWalk) → key_at G r (s.last + 1) ≡ None → StandsBehindSkipped false G r after left
  skips-all after e = record {
    skipped = once_closed (s.node.kids - walk.part) (behind_node G r s.place);
    rest = rest_of G r (suc s.last);
    split = left-next;
    are_behind = skipped-behind;
    stands = no-node e;
  }

pub stands-root : (G : List KeyedRule) (r : ℕ) (key : Key) → key_at G r 0 ≡ Some key → StandsBefore G r (record { key = key; part = 0; last = key }) (node_tour G r)
stands-root G r key e =
    let x = key-node (nodes_at G r) 0 key e in
    let z : x.0.kids ≡ x.0.kids - 0 = omega arith in
    record {
      place = 0;
      last = 0;
      node = x.0;
      there = x.1;
      key = x.2;
      within = omega arith;
      last_there = e;
      are_left = sym (tour_from-start kids_of ([] ∷ []) (nodes_at G r)) ∙ tour_from-there kids_of ([] ∷ []) (nodes_at G r) 0 x.0 x.1 ∙ ap (λ k. stop x.0 0 ∷ (once_closed k (behind_node G r 0) ++ rest_of G r 1)) z;
    }

pub no_more : {X : Type 0} (o : Option X) → ((x : X) → o ≡ Some x → ⊥) → o ≡ None
no_more None h = refl
no_more (Some x) h = absurd (h x refl)

-- the walk's key stands at the place of its node
pub node-here : (G : List KeyedRule) (r : ℕ) (walk : TourWalk) (left : List (Stop Node)) (s : StandsBefore G r walk left) → key_at G r s.place ≡ Some walk.key
node-here G r walk left s = node-key (nodes_at G r) s.place s.node s.there ∙ ap Some s.key

-- and the node is what the key's item says
pub node-is : (G : List KeyedRule) (r : ℕ) (walk : TourWalk) (left : List (Stop Node)) (s : StandsBefore G r walk left) (x : Node)
    → ((r p : ℕ) → key_at G r p ≡ Some walk.key → slice_get (nodes_at G r) p ≡ Some x) → s.node ≡ x
node-is G r walk left s x h =
    let e : Some s.node ≡ Some x = sym s.there ∙ h r s.place (node-here G r walk left s) in
    cc

-- a step of a walk whose node's item is known
module _ (G : List KeyedRule) (r : ℕ) (walk : TourWalk) (m : Stop Node) (left : List (Stop Node)) (s : StandsBefore G r walk (m ∷ left)) (x : Node)
    (h : (r p : ℕ) → key_at G r p ≡ Some walk.key → slice_get (nodes_at G r) p ≡ Some x) (up : Option (Key × ℕ))
    (u : (r p : ℕ) → key_at G r p ≡ Some walk.key → parent_in (nodes_at G r) p ≡ up) where
  is_node : s.node ≡ x
  is_node = node-is G r walk (m ∷ left) s x h

  parent-is : parent_in (nodes_at G r) s.place ≡ up
  parent-is = u r s.place (node-here G r walk (m ∷ left) s)

  pub step-up : x.kids ≤ walk.part → (key : Key) (k : ℕ) → up ≡ Some (key, k) → StandsBefore G r (record { key = key; part = k; last = walk.last }) left
  step-up b key k e = stands-up G r walk m left s (omega (arith, ap (λ (y : Node). y.kids) is_node)) key k (parent-is ∙ e)

  pub step-below : walk.part < x.kids → IsNextNew G r walk m left s
  step-below b = new-below G r walk m left s (omega (arith, ap (λ (y : Node). y.kids) is_node))

  pub step-root : x.kids ≤ walk.part → up ≡ None → IsNextNew G r walk m left s
  step-root b e = new-root G r walk m left s (omega (arith, ap (λ (y : Node). y.kids) is_node)) (parent-is ∙ e)
