-- The rounds in which occurrences are folded.
use Rattle.std.proofs.Common.{◌≡◌, ◌⊎◌, inl, inr, Result, Ok, Err, OnErr, ℕ, ◌+◌, ◌-◌, ◌*◌, ◌<◌, ◌≤◌, List, [], ◌∷◌, length, Some, None, Option, ◌∙◌, arith}
use Rattle.std.proofs.lemmas.Bool.{cases_lt}
use Rattle.rule_arena.specs.Terms.{kids_in}
use Rattle.rule_arena.specs.declared.key.Key.{Key}
use Rattle.slt_grammar.specs.Names.{Call}
use Rattle.slt_grammar.specs.Grammars.{size, value_at}
use Rattle.slt_grammar.specs.Keyed.{Keyed, IsKeyed, rules_of, nodes_at}
use Rattle.slt_grammar.specs.KeyedEdits.{FoldsInto, with_nodes, folded_nodes}
use Rattle.slt_grammar.specs.declared.digram.Digram.{Digram}
use Rattle.digram_index.specs.Keeping.{IsIndexBut}
use Rattle.digram_index.specs.Linked.{Linked, cell}
use Rattle.pair_replace.specs.Chains.{IsHead, IsLinkedAs, AreApart, SharesNoNode, HasNoMoreApart, LeavesApart}
use Rattle.pair_replace.specs.Near.{IsAround}
use Rattle.pair_replace.specs.Turns.{IsRound, IsTurn}
use Rattle.pair_replace.proofs.NearFolds.{ranks, rules}
use Rattle.pair_replace.proofs.FoldedCalls.{calls-kept, called-more}
use Rattle.pair_replace.proofs.NextFolds.{folds, upper-is, lower-is, apart-after, new-stays}

index-same : (g : Keyed) (I J : Linked) (own : Key) → IsIndexBut g I (λ k. k ≡ own.number) → J.rules ≡ I.rules → ((k : ℕ) → cell J k ≡ cell I k) → IsIndexBut g J (λ k. k ≡ own.number)
index-same g I J own B rules same = record {
  rules = rules ∙ B.rules;
  all = λ r p key k n. same key.number ∙ B.all r p key k n;
  free = λ k z. same k ∙ B.free k z;
  only = λ k x. B.only k (λ e. x (same k ∙ e));
}

shares-same : (I J : Linked) → ((k : ℕ) → cell J k ≡ cell I k) → (a : ℕ) (ks : List ℕ) → SharesNoNode I a ks → SharesNoNode J a ks
shares-same I J same a [] P = tt
shares-same I J same a (k ∷ ks) P =
    let x = same a in
    let y = same k in
    (record { lows = P.0.lows; highs = rw (x, y) P.0.highs; down = rw y P.0.down; back = rw x P.0.back }, shares-same I J same a ks P.1)

apart-same : (I J : Linked) (d : Digram) → ((k : ℕ) → cell J k ≡ cell I k) → (ks : List ℕ) → AreApart I d ks → AreApart J d ks
apart-same I J d same [] P = tt
apart-same I J d same (k ∷ ks) P = ((P.0.0, (same k ∙ P.0.1.0, P.0.1.1)), (shares-same I J same k ks P.1.0, apart-same I J d same ks P.1.1))

-- room was made in the index
pub round-same : (g : Keyed) (I J : Linked) (d : Digram) (rule : ℕ) (own : Key) (first : Keyed) (count : ℕ) → IsRound g I d rule own first count → J.rules ≡ I.rules → ((k : ℕ) → cell J k ≡ cell I k)
    → length I.cells ≤ length J.cells → I.spare_links ≤ J.spare_links → IsRound g J d rule own first count
round-same g I J d rule own first count R rules same cells spare = record {
  index = index-same g I J own R.index rules same;
  new = R.new;
  values = R.values;
  many = R.many;
  ranks = R.ranks;
  size_left = R.size_left;
  calls = R.calls;
  called = R.called;
  room = let r = R.room in omega (arith, r, spare);
  cells = let c = R.cells in omega (arith, c, cells);
}

-- one more was folded
pub round-next : (g h : Keyed) (K : IsKeyed g) (I J : Linked) (d : Digram) (rule : ℕ) (own : Key) (first : Keyed) (count : ℕ) (R : IsRound g I d rule own first count) → 18 ≤ I.spare_links → (low : Key) (H : IsHead I d low.number)
    → ((F : FoldsInto g.rules low rule) → h.rules ≡ with_nodes g.rules F.here.rule (folded_nodes (nodes_at g.rules F.here.rule) F.place F.upper F.here.place (Call rule)))
    → IsIndexBut h J (λ k. k ≡ own.number)
    → ((F : FoldsInto g.rules low rule) (n : ℕ) → (IsAround F.upper (kids_in (nodes_at g.rules F.here.rule) F.place) (kids_in (nodes_at g.rules F.here.rule) F.here.place) n → ⊥) → cell J n ≡ cell I n)
    → ((r : ℕ) → value_at (rules_of h.rules) r ≡ value_at (rules_of g.rules) r) → size (rules_of h.rules) + 1 ≡ size (rules_of g.rules)
    → I.spare_links ≤ J.spare_links + 17 → h.limit ≤ length J.cells → IsRound h J d rule own first (count + 1)
round-next g h K I J d rule own first count R spare low H made index others values less spare' cells =
    let F = folds g K d rule own R.new I R.index low H in
    let m = made F in
    let u = upper-is g K d rule own R.new I R.index low H in
    let l = lower-is g K d rule own R.new I R.index low H in
    record {
      index = index;
      new = new-stays g h K d rule own low F m (ranks g h K low rule F m) (rules g h K low rule F m) R.new;
      values = λ r. values r ∙ R.values r;
      many = rules g h K low rule F m ∙ R.many;
      ranks = ranks g h K low rule F m ∙ R.ranks;
      size_left = let s = R.size_left in omega (arith, s, less);
      calls = λ k z. let a = R.calls k z in let b = calls-kept g h K d rule own R.new low F m u l k z in omega (arith, a, b);
      called = let a = R.called in let b = called-more g h K d rule own R.new low F m u l in omega (arith, a, b);
      room = let r = R.room in omega (arith, r, spare, spare');
      cells = cells;
    }

-- a fold leaves all but one of the occurrences that share no node
pub apart-next : (g : Keyed) (K : IsKeyed g) (L I J : Linked) (d : Digram) (rule : ℕ) (own : Key) (first : Keyed) (count : ℕ) (R : IsRound g I d rule own first count) → ((k : ℕ) → cell I k ≡ cell L k) → (low : Key) (H : IsHead I d low.number)
    → ((F : FoldsInto g.rules low rule) (n : ℕ) → (IsAround F.upper (kids_in (nodes_at g.rules F.here.rule) F.place) (kids_in (nodes_at g.rules F.here.rule) F.here.place) n → ⊥) → cell J n ≡ cell I n)
    → LeavesApart L J d 1
apart-next g K L I J d rule own first count R same low H others = λ ks P.
    let F = folds g K d rule own R.new I R.index low H in
    let A = apart-after g K d rule own R.new I R.index low H J (others F) ks (apart-same L I d same ks P) in
    (A.0, (A.1.0, let x = A.1.1 in omega (arith, x)))

pub apart-none : (I : Linked) (d : Digram) → LeavesApart I I d 0
apart-none I d = λ ks P. (ks, (P, omega arith))

pub apart-more : (I J L : Linked) (d : Digram) (count : ℕ) → LeavesApart I J d count → LeavesApart J L d 1 → LeavesApart I L d (count + 1)
apart-more I J L d count A B = λ ks P.
    let a = A ks P in
    let b = B a.0 a.1.0 in
    (b.0, (b.1.0, let x = a.1.1 in let y = b.1.1 in omega (arith, x, y)))

-- where none is left, as many were folded as share no node
pub apart-ends : (I J : Linked) (d : Digram) (count : ℕ) → LeavesApart I J d count → ((k : ℕ) → IsLinkedAs J d k → ⊥) → HasNoMoreApart I d count
apart-ends I J d count A none = λ ks P. let a = A ks P in at a.0 a.1.0 ks a.1.1
  where
    at : (js : List ℕ) → AreApart J d js → (ks : List ℕ) → length ks ≤ length js + count → length ks ≤ count
    at [] Q ks h = omega (arith, h)
    at (j ∷ js) Q ks h = absurd (none j Q.0)

-- there is room for one more fold
pub enough : (count spare : ℕ) → 1 + 17 * (3 - count) ≤ spare → (3 ≤ count → 18 ≤ spare) → 18 ≤ spare
enough count spare room more = by (cases_lt count 3)
  where
    by : (count < 3) ⊎ (3 ≤ count) → 18 ≤ spare
    by (inl h) = omega (arith, h, room)
    by (inr h) = more h

pub err-says : {A E : Type 0} (P : Type 0) (r : Result A E) → P → OnErr r P
err-says P (Ok a) h = tt
err-says P (Err e) h = h

pub turns-end : (I : Linked) (d : Digram) (next : Option Key) → IsTurn I d next → next ≡ None → (k : ℕ) → IsLinkedAs I d k → ⊥
turns-end I d None T e = T.none
turns-end I d (Some k) T e = absurd (let z : Some k ≡ None = e in cc)
