-- Stores on the way where a node goes from between two texts.
use Rattle.std.proofs.Common.{◌≡◌, ℕ, ◌+◌, ◌*◌, ◌-◌, ◌<◌, ◌≤◌, List, [], ◌∷◌, ◌++◌, length, refl, ap, sym, ◌∙◌, subst, arith, Some}
use Rattle.std.specs.Prelude.{slice_get, slice_set}
use Rattle.std.proofs.lemmas.Option.{same_Some}
use Rattle.plain_tree.specs.declared.kind.Kind.TheVariants.{Text}
use Rattle.plain_tree.specs.Numbers.{texts_all}
use Rattle.plain_tree.specs.Siblings.{from_node}
use Rattle.plain_tree.specs.Tree.{Tree, node, Trees, none, more}
use Rattle.slt_grammar.specs.Bodies.{real_nodes}
use Rattle.slt_grammar.specs.ChangedValues.{start_body}
use Rattle.slt_grammar.specs.Grammars.{body_at, size}
use Rattle.slt_grammar.specs.Keyed.{Keyed, KeyedRule, rules_of}
use Rattle.slt_grammar.specs.Standing.{StandsFor}
use Rattle.slt_grammar.proofs.KeyedLemmas.{length-rules_of}
use Rattle.slt_grammar.proofs.Standing.{texts-one}
use Rattle.digram_index.specs.Linked.{IsIndexOf}
use Rattle.segment_counts.specs.Counting.{AreCounts}
use Rattle.path_isolation.specs.Isolations.{DifferInStart, start_of}
use Rattle.path_isolation.proofs.Elsewhere.{others-count}
use Rattle.preorder_address.specs.TreeNumbers.{text_rank_at}
use Rattle.plain_tree.specs.Allowed.{IsAllowed}
use Rattle.plain_tree.specs.declared.edit.Edit.TheVariants.{Delete}
use Rattle.tree_updates.specs.Extents.{IsUnsweptFor, StandsBetween}
use Rattle.tree_updates.specs.Stores.{IsStoreFor}
use Rattle.tree_updates.specs.declared.store.Store.{Store}
use Rattle.tree_updates.proofs.BetweenTexts.{AreSteps, between-steps, valued_left}
use Rattle.tree_updates.proofs.Ranks.{rank-told}
use Rattle.tree_updates.proofs.StoreSteps.{low-at}
use Rattle.tree_updates.proofs.Texts.{rank_in, texts-around}

at-front : (xs ys : List (List ℕ)) (v : List ℕ) → slice_get (xs ++ (v ∷ ys)) (length xs) ≡ Some v
at-front [] ys v = refl
at-front (x ∷ xs) ys v = at-front xs ys v

-- a text of a document stands among the texts at its rank
pub text-there : (G : Store) (t : Tree) (i : IsStoreFor G t) (n rank : ℕ) (v : List ℕ) (us : Trees) → from_node n (more t none) ≡ more (node Text [] v none) us → Some rank ≡ text_rank_at t n
    → slice_get G.texts.texts rank ≡ Some v
text-there G t i n rank v us here told =
    let low = low-at n (more t none) Text [] v none us here in
    let A = texts-around n (more t none) low in
    let r : rank ≡ length A.front = same_Some rank (rank_in n (more t none)) (told ∙ rank-told t n (omega (arith, low))) ∙ sym A.rank in
    let all : G.texts.texts ≡ A.front ++ (v ∷ (texts_all us ++ A.back)) = i.stand.texts ∙ sym (texts-one t) ∙ A.were ∙ ap (λ xs. A.front ++ (texts_all xs ++ A.back)) here in
    ap (λ xs. slice_get xs rank) all ∙ ap (slice_get (A.front ++ (v ∷ (texts_all us ++ A.back)))) r ∙ at-front A.front (texts_all us ++ A.back) v

-- once the left text has the value of both
pub joined-store : (mid : Store) (t : Tree) (i : IsStoreFor mid t) (a n right : ℕ) (w : List ℕ) (S : AreSteps (rules_of mid.grammar.rules) mid.names mid.texts.texts t a n right w) (rank : ℕ) → Some rank ≡ text_rank_at t a
    → (new : Store) → new.grammar ≡ mid.grammar → new.names ≡ mid.names → new.counts ≡ mid.counts → new.index ≡ mid.index → new.texts.texts ≡ slice_set mid.texts.texts rank w → IsUnsweptFor new (valued_left t a w)
joined-store mid t i a n right w S rank told new grammar names counts index texts =
    let one : Tree = valued_left t a w in
    let R = rules_of mid.grammar.rules in
    let r : rank_in a (more t none) ≡ rank = sym (same_Some rank (rank_in a (more t none)) (told ∙ rank-told t a S.left_low)) in
    let stand : StandsFor R mid.names new.texts.texts one =
    subst (λ vs. StandsFor R mid.names vs one) (sym texts) (subst (λ (k : ℕ). StandsFor R mid.names (slice_set mid.texts.texts k w) one) r S.left_stands) in
    record {
      stand = subst (λ (g : Keyed). StandsFor (rules_of g.rules) new.names new.texts.texts one) (sym grammar) (subst (λ ps. StandsFor R ps new.texts.texts one) (sym names) stand);
      small = omega (arith, S.left_count, i.small);
      counts = subst (λ (g : Keyed). AreCounts new.names (rules_of g.rules) new.counts) (sym grammar)
          (subst (λ ps. AreCounts ps R new.counts) (sym names) (subst (λ cs. AreCounts mid.names R cs) (sym counts) i.counts));
      index = subst (λ (g : Keyed). IsIndexOf g new.index) (sym grammar) (subst (λ x. IsIndexOf mid.grammar x) (sym index) i.index);
    }

-- two isolations bring the other bodies twice
pub thrice : (G H K : List KeyedRule) → 0 < length G → DifferInStart G H → size (rules_of H) + real_nodes (start_body (rules_of G)) ≤ 2 * size (rules_of G)
    → size (rules_of K) + real_nodes (start_body (rules_of H)) ≤ 2 * size (rules_of H) → size (rules_of K) ≤ 3 * size (rules_of G)
thrice G H K some D a b =
    let g : start_of G ≡ length (rules_of G) - 1 = ap (λ (n : ℕ). n - 1) (sym (length-rules_of G)) in
    let h : start_of G ≡ length (rules_of H) - 1 = ap (λ (n : ℕ). n - 1) (sym (length-rules_of H ∙ D.many)) in
    omega (arith, a, b, others-count real_nodes G H D some, ap (λ r. real_nodes (body_at (rules_of G) r)) g, ap (λ r. real_nodes (body_at (rules_of H) r)) h)

-- a store that tripled has no more than the bound where one text was merged
pub tripled : (x y m : ℕ) → m ≡ 1 → y ≤ 3 * x → y ≤ (2 + m) * x + 0
tripled x y m e h = subst (λ (k : ℕ). y ≤ (2 + k) * x + 0) (sym e) (omega (arith, h))

-- the steps of a store's document
pub store-steps : (s : Store) (t : Tree) (i : IsStoreFor s t) (n right : ℕ) (b : StandsBetween t n right) → IsAllowed t (Delete n)
    → AreSteps (rules_of s.grammar.rules) s.names s.texts.texts t (n - 1) n right (b.before ++ b.after)
store-steps s t i n right b a = between-steps (rules_of s.grammar.rules) s.names s.texts.texts t i.stand n right b a
