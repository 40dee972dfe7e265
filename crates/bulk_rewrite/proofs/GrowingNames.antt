-- The names that come while nodes are renamed.
use Rattle.std.proofs.Common.{◌≡◌, ℕ, not, List, [], ◌∷◌, ◌++◌, length, map, take, filter, cond, All, Bool, true, false, Option, Some, slice_get, slice_index_or, refl, sym, ap, ◌∙◌, subst, inl, inr, append_assoc, take_all, le_refl}
use Rattle.std.specs.List.{AllZip}
use Rattle.std.proofs.Math.Seq.{take-append_seam}
use Rattle.std.proofs.lemmas.List.Elements.{All-cons, All-nil, All-head, All-tail}
use Rattle.plain_tree.specs.NodePairs.{Pair}
use Rattle.plain_tree.specs.Numbers.{kind_of}
use Rattle.plain_tree.specs.Tree.{Tree, node, none, more}
use Rattle.slt_grammar.specs.Coding.{Codes}
use Rattle.slt_grammar.specs.Terms.{Term}
use Rattle.fcns_encoding.specs.Interning.{IsIn, Interns}
use Rattle.fcns_encoding.proofs.InternLemmas.{Codes-keeps, Interns-append, Interns-keeps, get-front}
use Rattle.bulk_rewrite.specs.NewNames.{FirstLacks, AreIn, TellsKnown}
use Rattle.bulk_rewrite.specs.Refusing.{is_renamable, no_sign, signs_of}
use Rattle.bulk_rewrite.specs.declared.refusing.Sign.{Sign}
use Rattle.bulk_rewrite.proofs.HitSymbols.{IsOf}
use Rattle.bulk_rewrite.proofs.Zips.{zip-at}

pub get-last : (xs : List Pair) (p : Pair) → slice_get (xs ++ p ∷ []) (length xs) ≡ Some p
get-last [] p = refl
get-last (x ∷ xs) p = get-last xs p

kept-in : (old ps new : List Pair) (p : Pair) → Interns old ps new → IsIn p old → IsIn p new
kept-in old ps new p h i = (i.0, Interns-keeps old ps new h i.0 p i.1)

-- what comes is in the table then
pub interns-in : (old ps new : List Pair) → Interns old ps new → AreIn new ps
interns-in old [] new h = All-nil (λ p. IsIn p new)
interns-in old (p ∷ ps) new h =
    elim h [
      | inl w ↦ All-cons (λ q. IsIn q new) p ps (kept-in old ps new p w.1 w.0) (interns-in old ps new w.1)
      | inr w ↦ All-cons (λ q. IsIn q new) p ps (kept-in (old ++ p ∷ []) ps new p w.1 (length old, get-last old p)) (interns-in (old ++ p ∷ []) ps new w.1)
    ]

interns-none : (names ps : List Pair) → AreIn names ps → Interns names ps names
interns-none names [] a = refl
interns-none names (p ∷ ps) a = inl (All-head (λ q. IsIn q names) p ps a, interns-none names ps (All-tail (λ q. IsIn q names) p ps a))

in-behind : (names front back : List Pair) → AreIn names (front ++ back) → AreIn names back
in-behind names [] back a = a
in-behind names (p ∷ front) back a = in-behind names front back (All-tail (λ q. IsIn q names) p (front ++ back) a)

-- the first that lacks stands behind those that are in the table
lacks-behind : (names front back : List Pair) (p : Pair) → AreIn names front → FirstLacks names (front ++ back) p → FirstLacks names back p
lacks-behind names [] back p a f = f
lacks-behind names (q ∷ front) back p a f =
    elim f [
      | inl w ↦ lacks-behind names front back p (All-tail (λ r. IsIn r names) q front a) w.1
      | inr w ↦ absurd (w.1 (All-head (λ r. IsIn r names) q front a))
    ]

-- the table has grown by some first ones of pairs
pub record HasGrown (old pairs names : List Pair) : Type 0 where
  pub front : List Pair
  pub back : List Pair
  pub parts : pairs ≡ front ++ back
  pub come : Interns old front names

pub grows-none : (old pairs : List Pair) → HasGrown old pairs old
grows-none old pairs = record { front = []; back = pairs; parts = refl; come = refl }

grows-first : (old names front back : List Pair) (p : Pair) → Interns old front names → FirstLacks names back p → HasGrown old (front ++ back) (names ++ p ∷ [])
grows-first old names front [] p i f = absurd f
grows-first old names front (q ∷ back) p i f =
    elim f [
      | inl w ↦ let r = grows-first old names (front ++ q ∷ []) back p (Interns-append old names names front (q ∷ []) i (inl (w.0, refl))) w.1 in
          record { front = r.front; back = r.back; parts = sym (append_assoc front (q ∷ []) back) ∙ r.parts; come = r.come }
      | inr w ↦ record {
        front = front ++ q ∷ [];
        back = back;
        parts = sym (append_assoc front (q ∷ []) back);
        come = Interns-append old names (names ++ p ∷ []) front (q ∷ []) i (inr (w.1, ap (λ x. names ++ x ∷ []) (sym w.0)));
      }
    ]

pub grows-more : (old pairs names new : List Pair) (p : Pair) → HasGrown old pairs names → FirstLacks names pairs p → new ≡ names ++ p ∷ [] → HasGrown old pairs new
grows-more old pairs names new p g f e =
    let behind = lacks-behind names g.front g.back p (interns-in old g.front names g.come) (subst (λ ps. FirstLacks names ps p) g.parts f) in
    let r = grows-first old names g.front g.back p g.come behind in
    record { front = r.front; back = r.back; parts = g.parts ∙ r.parts; come = subst (λ ns. Interns old r.front ns) (sym e) r.come }

-- what a code of documents is over a table it is over one that has grown
pub grown-code : (old pairs names : List Pair) (t : Tree) (term : Term) → HasGrown old pairs names → Codes old (more t none) term → Codes names (more t none) term
grown-code old pairs names t term g c = Codes-keeps old names (Interns-keeps old g.front names g.come) (more t none) term c

pub grows-whole : (old pairs names : List Pair) → HasGrown old pairs names → AreIn names pairs → Interns old pairs names
grows-whole old pairs names g a =
    let behind = in-behind names g.front g.back (subst (AreIn names) g.parts a) in
    subst (λ ps. Interns old ps names) (sym g.parts) (Interns-append old names names g.front g.back g.come (interns-none names g.back behind))

pub grows-some : (old pairs names : List Pair) → HasGrown old pairs names → (k : ℕ) × Interns old (take k pairs) names
grows-some old pairs names g = (length g.front, subst (λ ps. Interns old ps names) (sym (ap (take (length g.front)) g.parts ∙ take-append_seam g.front g.back)) g.come)

pub some-grown : (old pairs new : List Pair) → Interns old pairs new → (k : ℕ) × Interns old (take k pairs) new
some-grown old pairs new h = (length pairs, subst (λ ps. Interns old ps new) (sym (take_all (length pairs) pairs (le_refl (length pairs)))) h)

-- a first pair that lacks isn't in the table
pub lacks-out : (names pairs : List Pair) (p : Pair) → FirstLacks names pairs p → IsIn p names → ⊥
lacks-out names [] p f i = absurd f
lacks-out names (q ∷ qs) p f i =
    elim f [
      | inl w ↦ lacks-out names qs p w.1 i
      | inr w ↦ w.1 (subst (λ r. IsIn r names) (sym w.0) i)
    ]

-- the pair of a node's kind with the name
abbrev pub pair_with : List ℕ → Tree → Pair
pair_with name s = (kind_of s, name)

-- of nodes that may be renamed, the first pair that lacks has a kind that may
pub first-renamable : (names : List Pair) (name : List ℕ) (ss : List Tree) (p : Pair) → All (λ s. is_renamable (kind_of s) ≡ true) ss → FirstLacks names (map (pair_with name) ss) p → is_renamable p.0 ≡ true
first-renamable names name [] p a f = absurd f
first-renamable names name (s ∷ ss) p a f =
    let P : Tree → Type 0 = λ t. is_renamable (kind_of t) ≡ true in
    elim f [
      | inl w ↦ first-renamable names name ss p (All-tail P s ss a) w.1
      | inr w ↦ ap (λ (q : Pair). is_renamable q.0) (sym w.0) ∙ All-head P s ss a
    ]

module _ (names : List Pair) (name : List ℕ) (signs : List Sign) (told : AllZip (TellsKnown names name) names signs) where
  abbrev pub lacks : ℕ → Bool
  lacks f = not ((signs_of signs).allowed f)

  sign : (f : ℕ) (p : Pair) → slice_get names f ≡ Some p → TellsKnown names name p (slice_index_or signs f no_sign)
  sign f p e = zip-at (TellsKnown names name) names signs f p no_sign told e

  -- the first symbol that lacks has the kind of the first pair that does
  pub first-lacks : (fs : List ℕ) (ss : List Tree) → AllZip (IsOf names) fs ss → (f : ℕ) (rest : List ℕ) → filter lacks fs ≡ f ∷ rest → (p : Pair) → slice_get names f ≡ Some p → FirstLacks names (map (pair_with name) ss) (p.0, name)
  first-lacks [] [] a f rest e p at = absurd (cc)
  first-lacks [] (s ∷ ss) a f rest e p at = absurd a
  first-lacks (g ∷ fs) [] a f rest e p at = absurd a
  first-lacks (g ∷ fs) (node k o v ks ∷ ss) a f rest e p at = by_allowed ((signs_of signs).allowed g) refl (λ x. first-lacks fs ss a.1 f rest x p at) e
    where
      it : TellsKnown names name (k, o) (slice_index_or signs g no_sign)
      it = sign g (k, o) a.0

      first : g ≡ f → ◌≡◌ {A = Pair} (k, name) (p.0, name)
      first same = let pairs : ◌≡◌ {A = Option Pair} (Some (k, o)) (Some p) = sym a.0 ∙ ap (slice_get names) same ∙ at in let one : ◌≡◌ {A = Pair} (k, o) p = cc in ap (λ (q : Pair). (q.0, name)) one

      by_allowed : (b : Bool) → (signs_of signs).allowed g ≡ b → (filter lacks fs ≡ f ∷ rest → FirstLacks names (map (pair_with name) ss) (p.0, name)) → cond (not b) (g ∷ filter lacks fs) (filter lacks fs) ≡ f ∷ rest → FirstLacks names (map (pair_with name) (node k o v ks ∷ ss)) (p.0, name)
      by_allowed true h ih x = inl (it.known h, ih x)
      by_allowed false h ih x = let same : g ≡ f = cc in inr (first same, it.lacking h)

  -- where no symbol lacks no pair does
  pub none-lacks : (fs : List ℕ) (ss : List Tree) → AllZip (IsOf names) fs ss → filter lacks fs ≡ [] → AreIn names (map (pair_with name) ss)
  none-lacks [] [] a e = All-nil (λ p. IsIn p names)
  none-lacks [] (s ∷ ss) a e = absurd a
  none-lacks (g ∷ fs) [] a e = absurd a
  none-lacks (g ∷ fs) (node k o v ks ∷ ss) a e = by_allowed ((signs_of signs).allowed g) refl (none-lacks fs ss a.1) e
    where
      by_allowed : (b : Bool) → (signs_of signs).allowed g ≡ b → (filter lacks fs ≡ [] → AreIn names (map (pair_with name) ss)) → cond (not b) (g ∷ filter lacks fs) (filter lacks fs) ≡ [] → AreIn names (map (pair_with name) (node k o v ks ∷ ss))
      by_allowed true h ih x = All-cons (λ p. IsIn p names) (k, name) (map (pair_with name) ss) ((sign g (k, o) a.0).known h) (ih x)
      by_allowed false h ih x = absurd (cc)

  -- where those that lack are all one symbol, no pair lacks once that symbol's kind has the name
  pub only-lacks : (fs : List ℕ) (ss : List Tree) → AllZip (IsOf names) fs ss → (f : ℕ) → All (λ g. g ≡ f) (filter lacks fs) → (p : Pair) → slice_get names f ≡ Some p → AreIn (names ++ (p.0, name) ∷ []) (map (pair_with name) ss)
  only-lacks [] [] a f e p at = All-nil (λ q. IsIn q (names ++ (p.0, name) ∷ []))
  only-lacks [] (s ∷ ss) a f e p at = absurd a
  only-lacks (g ∷ fs) [] a f e p at = absurd a
  only-lacks (g ∷ fs) (node k o v ks ∷ ss) a f e p at = by_allowed ((signs_of signs).allowed g) refl (λ x. only-lacks fs ss a.1 f x p at) e
    where
      new : List Pair
      new = names ++ (p.0, name) ∷ []

      In : Pair → Type 0
      In q = IsIn q new

      there : IsIn (k, name) names → In (k, name)
      there i = (i.0, get-front names ((p.0, name) ∷ []) i.0 (k, name) i.1)

      come : g ≡ f → In (k, name)
      come same =
          let pairs : ◌≡◌ {A = Option Pair} (Some (k, o)) (Some p) = sym a.0 ∙ ap (slice_get names) same ∙ at in
          let one : ◌≡◌ {A = Pair} (k, o) p = cc in
          subst In (sym (ap (λ (q : Pair). (q.0, name)) one)) (length names, get-last names (p.0, name))

      by_allowed : (b : Bool) → (signs_of signs).allowed g ≡ b → (All (λ h. h ≡ f) (filter lacks fs) → AreIn new (map (pair_with name) ss)) → All (λ h. h ≡ f) (cond (not b) (g ∷ filter lacks fs) (filter lacks fs)) → AreIn new (map (pair_with name) (node k o v ks ∷ ss))
      by_allowed true h ih x = All-cons In (k, name) (map (pair_with name) ss) (there ((sign g (k, o) a.0).known h)) (ih x)
      by_allowed false h ih x = All-cons In (k, name) (map (pair_with name) ss) (come (All-head (λ h. h ≡ f) g (filter lacks fs) x)) (ih (All-tail (λ h. h ≡ f) g (filter lacks fs) x))
