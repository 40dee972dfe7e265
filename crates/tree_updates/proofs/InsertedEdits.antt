-- Insertions that are made, or refused.
use Rattle.std.proofs.Common.{◌≡◌, ◌↔◌, ◌⊎◌, inl, inr, ℕ, ◌+◌, ◌-◌, ◌*◌, ◌<◌, ◌≤◌, ◌^◌, Bool, true, false, IsTrue, List, length, take, min, sym, ◌∙◌, subst, arith, Some}
use Rattle.std.proofs.Math.Bool.{true≢false}
use Rattle.slt_grammar.specs.Grammars.{IsGrammar}
use Rattle.segment_counts.specs.Counting.{told}
use Rattle.segment_counts.specs.declared.counts.Measure.TheVariants.{Nodes}
use Rattle.std.proofs.lemmas.Bool.{cases_lt, le-leb, leb-true}
use Rattle.std.proofs.Math.Dec.{leb}
use Rattle.std.proofs.lemmas.List.{take_all}
use Rattle.std.proofs.lemmas.Nat.{mul-le}
use Rattle.plain_tree.specs.declared.edit.Edit.{Edit}
use Rattle.plain_tree.specs.declared.edit.Edit.TheVariants.{Insert}
use Rattle.plain_tree.specs.Allowed.{IsAllowed}
use Rattle.plain_tree.specs.EditLaws.{IsEditOf}
use Rattle.plain_tree.specs.Edits.{edited}
use Rattle.plain_tree.specs.Lawful.{IsFragment}
use Rattle.plain_tree.specs.NodePairs.{Pair, pairs_of_trees}
use Rattle.plain_tree.specs.Numbers.{texts_all}
use Rattle.plain_tree.specs.Tree.{Tree, trees, node_count, node_count_all}
use Rattle.slt_grammar.specs.Coding.{CodesTo}
use Rattle.slt_grammar.specs.Terms.{Hole}
use Rattle.slt_grammar.specs.Keyed.{rules_of}
use Rattle.fcns_encoding.specs.Interning.{Interns}
use Rattle.fcns_encoding.specs.declared.coding.Coded.{Coded}
use Rattle.preorder_address.specs.TreeNumbers.{text_rank_at}
use Rattle.tree_updates.specs.Fragments.{IsCodeOf}
use Rattle.tree_updates.specs.Joinings.{AreSeams, MayInsert, MayJoin, ends}
use Rattle.tree_updates.specs.declared.joining.Joined.{Joined}
use Rattle.tree_updates.specs.declared.joining.Seams.{Seams}
use Rattle.tree_updates.specs.Stores.{IsRefused, IsStoreFor}
use Rattle.tree_updates.specs.declared.store.EditError.TheVariants.{Memory, TooMany}
use Rattle.tree_updates.specs.declared.store.Store.{Store}
use Rattle.tree_updates.proofs.InsertedCounts.{count-edited}
use Rattle.tree_updates.proofs.StoreLemmas.{refused-there, total-is}

-- a store with the same names
pub still-joins : (s u : Store) (t : Tree) (n rank : ℕ) (F : List Tree) (j : Joined) → u.names ≡ s.names → MayJoin s t n rank F j → MayJoin u t n rank F j
still-joins s u t n rank F j same M = record {
  leave = M.leave;
  rank_is = M.rank_is;
  front_text = M.front_text;
  back_text = M.back_text;
  code = record { front = M.code.front; codes = subst (λ (ps : List Pair). CodesTo ps (Hole 0) (trees F) M.code.front) (sym same) M.code.codes; is = M.code.is };
  texts_are = M.texts_are;
}

module _ (s : Store) (t : Tree) (i : IsStoreFor s t) (n : ℕ) (F : List Tree) (allowed : IsAllowed t (Insert n F)) (parts : IsFragment (trees F)) where
  abbrev e : Edit
  e = Insert n F

  edit-of : IsEditOf t (Insert n F)
  edit-of = record { document_is = i.stand.document; allowed = allowed; parts = parts }

  module _ (rank : ℕ) (ranked : Some rank ≡ text_rank_at t n) (z : Seams) (S : AreSeams t n F z) (fits : Bool)
      (told : IsTrue fits ↔ node_count t + node_count_all (trees F) < 2 ^ 63 + (ends z.front 1 + ends z.back 1)) where
    count : node_count (edited t (Insert n F)) + (ends z.front 1 + ends z.back 1) ≡ node_count t + node_count_all (trees F)
    count = count-edited s t i n rank F edit-of ranked z S

    -- the fragment may be inserted, under the names that grew
    pub may-insert : fits ≡ true → (new : Store) (c : Coded) → IsCodeOf new.names F c.body → c.texts ≡ texts_all (trees F) → MayInsert new t n rank z F c
    may-insert f new c code texts = record { edit_is = edit-of; small = let k = told.0 f in omega (arith, k, count); rank_is = ranked; seams = S; code = code; texts_are = texts }

    -- or the document would have too many nodes
    pub too-many : fits ≡ false → IsRefused t (Insert n F) TooMany s s
    too-many f = refused-there t (Insert n F) TooMany s (allowed, by (cases_lt (node_count t + node_count_all (trees F)) (2 ^ 63 + (ends z.front 1 + ends z.back 1)))) i
      where
        by : (node_count t + node_count_all (trees F) < 2 ^ 63 + (ends z.front 1 + ends z.back 1)) ⊎ (2 ^ 63 + (ends z.front 1 + ends z.back 1) ≤ node_count t + node_count_all (trees F)) → 2 ^ 63 ≤ node_count (edited t (Insert n F))
        by (inl h) = absurd (true≢false (sym (told.1 h) ∙ f))
        by (inr h) = omega (arith, h, count)

  -- memory was wanting once some first names were there
  pub refused-some : (new : Store) (k : ℕ) → Interns s.names (take k (pairs_of_trees (trees F))) new.names → IsStoreFor new t → rules_of new.grammar.rules ≡ rules_of s.grammar.rules → new.texts.texts ≡ s.texts.texts
      → IsRefused t (Insert n F) Memory s new
  refused-some new k some j rules texts = record { cause = tt; store = j; rules = rules; texts = texts; names = inr (allowed, (k, some)) }

  -- or once all were
  pub refused-coded : (new : Store) → Interns s.names (pairs_of_trees (trees F)) new.names → IsStoreFor new t → rules_of new.grammar.rules ≡ rules_of s.grammar.rules → new.texts.texts ≡ s.texts.texts → IsRefused t (Insert n F) Memory s new
  refused-coded new grown =
      let ps : List Pair = pairs_of_trees (trees F) in
      refused-some new (length ps) (subst (λ (qs : List Pair). Interns s.names qs new.names) (sym (take_all (length ps) ps (omega arith))) grown)

-- a store that doubled, and got the fragment's nodes, has no more than the bound
pub doubled-more : (x y m k : ℕ) → y ≤ 2 * x + k → y ≤ (2 + m) * x + k
doubled-more x y m k h = let l : 2 * x ≤ (2 + m) * x = mul-le 2 x (2 + m) x (omega arith) (omega arith) in omega (arith, h, l)

ends-few : (meet : Bool) → ends meet 1 ≤ 1
ends-few true = omega arith
ends-few false = omega arith

-- whether so many nodes may come, of which no more than 2^64 - 1 are counted
pub fits-told : (s : Store) (F : List Tree) (z : Seams) → IsGrammar (rules_of s.grammar.rules) → (total : ℕ) → total ≡ told Nodes s.counts.rows (s.counts.rules - 1) 0 → (f b : ℕ) → f ≡ ends z.front 1 → b ≡ ends z.back 1 → (count : ℕ)
    → count ≡ min (node_count_all (trees F)) (2 ^ 64 - 1) → (t : Tree) → IsStoreFor s t
    → (IsTrue (leb count (2 ^ 63 - 1 - total + (f + b))) ↔ node_count t + node_count_all (trees F) < 2 ^ 63 + (ends z.front 1 + ends z.back 1))
fits-told s F z g total kept f b e h count is t i =
    let c = total-is s t i g in (
      λ k. let l = leb-true count (2 ^ 63 - 1 - total + (f + b)) k in omega (arith, l, e, h, is, kept, c, i.small, ends-few z.front, ends-few z.back),
      λ l. le-leb count (2 ^ 63 - 1 - total + (f + b)) (omega (arith, l, e, h, is, kept, c, i.small)),
    )
