-- What commands print, as steps of the machine.
use Rattle.std.proofs.Common.{◌≡◌, ◌≤◌, ◌<◌, ℕ, List, ◌++◌, Some, Result, refl, ap}
use Rattle.plain_tree.specs.Tree.{Tree, node_count}
use Rattle.tree_outside.proofs.Beside.{Stays-refl}
use Rattle.store_core.specs.Acts.{Act}
use Rattle.store_core.specs.Machine.{Comes, Shows, Step}
use Rattle.store_core.specs.Texts.{answer_line, line_of, shown_bytes}
use Rattle.store_core.specs.Worlds.{AreLawfulParts, IsLawfulState, Parts, PartsStandFor, World, parts_in}
use Rattle.store_core.specs.declared.answer.Answer.{Answer}
use Rattle.store_core.specs.declared.answer.Answer.TheVariants as ok
use Rattle.store_core.specs.declared.answer.Refusal.{Refusal}
use Rattle.store_words.specs.declared.words.Settings.{Settings}

-- a command that comes to an outcome behind a text prints both
pub comes_step : (settings : Settings) (act : Act) (old new : World) (text : List ℕ) (outcome : Result Answer Refusal) → IsLawfulState old.state → IsLawfulState new.state → old.count ≤ new.count
    → Comes settings act old text outcome new → Step settings act old (text ++ line_of outcome) new
comes_step settings act old new text outcome before after later comes = record {
  before = before;
  after = after;
  later = later;
  outcome = outcome;
  text = text;
  comes = comes;
  printed = refl;
}

-- bytes that show the node, and the line behind them, are what is printed of it
pub node_shown : (parts : Parts) (number : ℕ) (bytes : List ℕ) (w : World) → AreLawfulParts parts → parts_in w.state ≡ Some parts
    → ((t : Tree) → PartsStandFor parts t → (number < node_count t) × (bytes ≡ shown_bytes t number)) → Shows number w (bytes ++ answer_line ok.Shown) w
node_shown parts number bytes w are held shows = record {
  parts = parts;
  tree = are.tree;
  held = held;
  stand = are.stand;
  there = (shows are.tree are.stand).0;
  same = record { state = refl; files = Stays-refl w.files };
  printed = ap (λ bs. bs ++ answer_line ok.Shown) (shows are.tree are.stand).1;
}
