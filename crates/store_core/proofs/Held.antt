-- What is held of nodes before it is written.
use Rattle.std.proofs.Common.{◌≡◌, ℕ, suc, zero, List, [], ◌∷◌, ◌++◌, Bool, true, false, length, take, Some, Result, Ok, Err, sym, ap, ◌∙◌, append-nil, arith, ◌≤◌}
use Rattle.std.specs.Prelude.{MatchResult, is_err, is_ok, if◌then◌else◌}
use Rattle.std.specs.Option.{option_map_or}
use Rattle.std.proofs.Math.Seq.{take-append_seam}
use Rattle.std.proofs.lemmas.Option.{same_Some, slice_get_past}
use Rattle.plain_tree.specs.Numbers.{nodes}
use Rattle.plain_tree.specs.Tree.{Tree, node_count}
use Rattle.plain_tree.proofs.NodeCounts.{length-nodes}
use Rattle.tree_outside.specs.Outside.{Gets, GetsFront}
use Rattle.xml_nodes.specs.Saved.{spelling}
use Rattle.store_core.specs.Texts.{shown_bytes}
use Rattle.store_core.proofs.Walks.{count-some}

-- nothing shows a node that isn't there
pub none-shown : (t : Tree) (number : ℕ) → node_count t ≤ number → shown_bytes t number ≡ []
none-shown t zero h = absurd (omega (arith, count-some t))
none-shown t (suc n) h = ap (λ o. option_map_or (λ s. spelling s ++ 10 ∷ []) o []) (slice_get_past (nodes t) (suc n) (omega (arith, length-nodes t)))

-- behind a writing that failed what was held is so again
pub held-again : {E : Type 0} (result : Result ℕ E) (old mid text shown : List ℕ) (before : ℕ) (done : Bool) → is_err result ≡ true → done ≡ is_ok result → before ≡ length old
    → MatchResult result (λ _. Gets (Some old) (Some mid) text) (λ _. GetsFront (Some old) (Some mid) text) → take before mid ≡ old ++ (if done then shown else [])
held-again (Ok n) old mid text shown before done failed is length_is w = absurd cc
held-again (Err e) old mid text shown before done failed is length_is w = rw (is, length_is) (ap (take (length old)) w.2 ∙ (take-append_seam old w.0 ∙ sym (append-nil old)))

-- otherwise what was written is held behind it
pub held-more : {E : Type 0} (result : Result ℕ E) (old mid text shown : List ℕ) (done : Bool) → is_err result ≡ false → done ≡ is_ok result → shown ≡ text
    → MatchResult result (λ _. Gets (Some old) (Some mid) text) (λ _. GetsFront (Some old) (Some mid) text) → mid ≡ old ++ (if done then shown else [])
held-more (Ok n) old mid text shown done went is same w = rw (is, same) (same_Some mid (old ++ text) w)
held-more (Err e) old mid text shown done went is same w = absurd cc

-- where there was no room, what is held is as before
pub held-still : (there : Bool) (old new text : List ℕ) → there ≡ false → new ≡ old ++ (if there then text else []) → new ≡ old
held-still true old new text none h = absurd cc
held-still false old new text none h = h ∙ append-nil old

pub held-behind : (there : Bool) (old new text : List ℕ) → there ≡ true → new ≡ old ++ (if there then text else []) → old ++ text ≡ new
held-behind true old new text some h = sym h
held-behind false old new text some h = absurd cc
