-- What it comes to that all nodes of a query are printed.
use Rattle.std.proofs.Common.{◌≡◌, inl, inr, ℕ, List, [], ◌++◌, length, Option, Some, Result, Ok, refl, sym, ap, ◌∙◌, subst, append-nil}
use Rattle.std.specs.List.{flat_map}
use Rattle.plain_tree.specs.Tree.{Tree}
use Rattle.tree_outside.specs.Outside.{Gets, GetsFront}
use Rattle.tree_outside.proofs.Sinks.{GetsFront-first}
use Rattle.store_core.specs.Acts.{ShowAll}
use Rattle.store_core.specs.Machine.{Comes, Refuses, ShowsAll}
use Rattle.store_core.specs.Printed.{Gathers}
use Rattle.store_core.specs.Selecting.{Selects}
use Rattle.store_core.specs.Texts.{answer_line, line_of, shown_bytes}
use Rattle.store_core.specs.Worlds.{Parts, World, parts_in}
use Rattle.store_core.specs.declared.answer.Answer.{Answer}
use Rattle.store_core.specs.declared.answer.Answer.TheVariants as ok
use Rattle.store_core.specs.declared.answer.Refusal.{Refusal}
use Rattle.store_core.specs.declared.answer.Refusal.TheVariants as no
use Rattle.store_words.specs.declared.words.Settings.{Settings}
use Rattle.store_core.proofs.Asked.{asks_ready, same_world}
use Rattle.store_core.proofs.Gathering.{all-printed}

module _ (query : List ℕ) (tree : Tree) (w : World) (ns : List ℕ) where
  -- all were printed
  all_told : (text : List ℕ) (count : ℕ) → Selects query w tree ns → flat_map (shown_bytes tree) ns ≡ text → count ≡ length ns → ShowsAll query w (text ++ answer_line (ok.ShownAll count)) w
  all_told text count selects is e = record {
    tree = tree;
    answer = ns;
    selects = selects;
    same = same_world w;
    printed = ap (λ bs. bs ++ answer_line (ok.ShownAll count)) (sym is) ∙ ap (λ n. flat_map (shown_bytes tree) ns ++ answer_line (ok.ShownAll n)) e;
  }

  pub all_shown : {E : Type 0} (before now : Option (List ℕ)) (count : ℕ) (done : Result (Unit {0}) E) (u : Unit {0}) → Selects query w tree ns → Gathers before now (shown_bytes tree) ns done [] → done ≡ Ok u
      → count ≡ length ns → (text : List ℕ) × Gets before now text × ShowsAll query w (text ++ answer_line (ok.ShownAll count)) w
  all_shown before now count done u selects g is e = (g.got, g.gets, all_told g.got count selects (all-printed (shown_bytes tree) ns before now done u is g) e)

  -- some first ones were
  pub some_shown : {E : Type 0} (parts : Parts) (before now : Option (List ℕ)) (done : Result (Unit {0}) E) → parts_in w.state ≡ Some parts → Selects query w tree ns → Gathers before now (shown_bytes tree) ns done []
      → (text : List ℕ) × Gets before now text × Refuses (ShowAll query) no.Memory w text w
  some_shown parts before now done held selects g = (
    g.got,
    g.gets,
    record {
      begins = inr (refl, record { tree = tree; first = g.first; later = g.later; selects = subst (Selects query w tree) g.whole selects; printed = sym (g.bytes ∙ append-nil g.got) });
      cause = asks_ready (ShowAll query) query parts w refl held;
      leaves = inl (same_world w);
    },
  )

  -- the sink failed meanwhile
  pub showing_fails : (settings : Settings) (before now : Option (List ℕ)) → Selects query w tree ns → GetsFront before now (flat_map (shown_bytes tree) ns)
      → (text : List ℕ) × (outcome : Result Answer Refusal) × GetsFront before now (text ++ line_of outcome) × Comes settings (ShowAll query) w text outcome w
  showing_fails settings before now selects front =
      let bytes : List ℕ = flat_map (shown_bytes tree) ns in
      let line : List ℕ = answer_line (ok.ShownAll (length ns)) in
      (bytes, Ok (ok.ShownAll (length ns)), GetsFront-first before now bytes line front, all_told bytes (length ns) selects refl refl)
