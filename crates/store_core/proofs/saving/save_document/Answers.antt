use Rattle.std.proofs.Common.{rules, ◌≡◌, length, ap, refl, ◌∙◌}
use Rattle.std.proofs.lemmas.Result.{err_from_is_err_and}
use Rattle.xml_nodes.specs.Saved.{saved_bytes}
use Rattle.store_core.specs.Texts.{answer_line}
use Rattle.store_core.specs.StoreOf.{parts_of}
use Rattle.store_core.specs.Walking.{walk_text}
use Rattle.store_core.specs.declared.answer.Answer.TheVariants.{Bytes}
use Rattle.store_core.proofs.Asked.{some-held}
use Rattle.store_core.proofs.saving.save_document.Goals as goal

pub returns-clause-saves : goal.returns-clause-saves
returns-clause-saves g c = λ state is.
    let held = c.requires.held in
    let e : walk_text c.args.store.now c.in_ok-walk.walk ≡ saved_bytes held.tree = c.in_ok-walk.ensures.text held.tree held.stand in
    record {
      parts = parts_of c.args.store.now;
      tree = held.tree;
      held = is;
      stand = held.stand;
      written = record { state = refl; files = rw (← e) (search rules) };
      printed = ap (λ n. answer_line (Bytes n)) (c.in_ok-count.ensures.count ∙ ap length e);
    }

pub returns-in_err-walk-clause-refused : goal.returns-in_err-walk-clause-refused
returns-in_err-walk-clause-refused g c =
    let p = err_from_is_err_and c.from_residual.result c.from_residual.ensures.1 in
    rw (p.1, p.2) (λ state is. record { document = λ needs. some-held state (parts_of c.args.store.now) is; file = λ name reads. cc })
