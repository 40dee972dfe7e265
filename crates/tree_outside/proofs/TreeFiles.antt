-- A tree of texts, as the map that it stands for.
use Rattle.std.specs.Prelude.{◌≡◌, ℕ, List, [], ◌∷◌, Bool, true, false, cond, Option, Some, string_bytes, String, Vec, refl}
use Rattle.std.proofs.Common.{sym, ap, ◌∙◌}
use Rattle.std.specs.Option.{option_map}
use Rattle.std.specs.Ordering.{nat_cmp, eq_by_cmp}
use Rattle.std.specs.Cmp.Lexicographic.{slice_cmp, nat_list_cmp_total}
use Rattle.std.specs.Cmp.{eq_by_cmp_equiv}
use Rattle.std.specs.FinMap.{get, insert, get-from_entries, get-insert, same_map, slice_cmp-IsAntisymmetric, nat_cmp-IsAntisymmetric}
use Rattle.std.specs.FinMap.Entries.{find}
use Rattle.std.specs.Map.{lookup}
use Rattle.std.specs.Str.{bytes_eq}
use Rattle.std.specs.String.{string_cmp}
use Rattle.std.specs.BTreeMap.{BTreeMap, get_by_text, UpdatesBy, is_at}
use Rattle.std.proofs.lemmas.Map.Text.{btree_map_updates_text, is_eq-slice_cmp, text_cmp}
use Rattle.std.specs.declared.alloc.Global.{Global}
use Rattle.tree_outside.specs.MemoryFiles.{file_entries, files_of}

found : (b : Bool) (x : Vec ℕ Global) (rest : Option (Vec ℕ Global)) → cond b (Some x.items) (option_map (λ v. v.items) rest) ≡ option_map (λ v. v.items) (cond b (Some x) rest)
found true x rest = refl
found false x rest = refl

find-file_entries : (es : List (String Global × Vec ℕ Global)) (q : List ℕ) → find (slice_cmp nat_cmp) q (file_entries es) ≡ option_map (λ v. v.items) (lookup (is_at (text_cmp q)) es)
find-file_entries [] q = refl
find-file_entries (e ∷ es) q =
    ap (cond (eq_by_cmp (slice_cmp nat_cmp) q (string_bytes e.0)) (Some e.1.items)) (find-file_entries es q) ∙ found _ e.1 _

-- what the map has at a name is what the tree has there
pub get-files_of : (m : BTreeMap (String Global) (Vec ℕ Global)) (q : List ℕ) → get (files_of m) q ≡ option_map (λ v. v.items) (get_by_text m q)
get-files_of m q = get-from_entries nat_list_cmp_total (file_entries m.entries) q ∙ find-file_entries m.entries q

chosen : (b : Bool) (x : Vec ℕ Global) (old : Option (Vec ℕ Global)) → option_map (λ v. v.items) (cond b (Some x) old) ≡ cond b (Some x.items) (option_map (λ v. v.items) old)
chosen true x old = refl
chosen false x old = refl

-- one file put into the tree is put into the map
pub files_of-insert : (m n : BTreeMap (String Global) (Vec ℕ Global)) (k : List ℕ) (v : Vec ℕ Global) → UpdatesBy string_cmp (λ s. slice_cmp nat_cmp k (string_bytes s)) m n (Some v) → files_of n ≡ insert (files_of m) k v.items
files_of-insert m n k v h =
    same_map nat_list_cmp_total (slice_cmp-IsAntisymmetric nat_cmp-IsAntisymmetric) _ _ (λ q.
    get-files_of n q
    ∙ ap (option_map (λ v. v.items)) (btree_map_updates_text k m n (Some v) h q)
    ∙ chosen (bytes_eq k q) v (get_by_text m q)
    ∙ ap (λ b. cond b (Some v.items) (option_map (λ v. v.items) (get_by_text m q))) (sym (is_eq-slice_cmp k q) ∙ (eq_by_cmp_equiv nat_list_cmp_total).symm k q)
    ∙ ap (cond (eq_by_cmp (slice_cmp nat_cmp) q k) (Some v.items)) (sym (get-files_of m q))
    ∙ sym (get-insert nat_list_cmp_total (files_of m) k v.items q))
