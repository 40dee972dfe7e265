use Rattle.std.proofs.Common.{◌≡◌, ◌++◌, length, ap, refl, ◌∙◌, arith, Some}
use Rattle.std.specs.Prelude.{if◌then◌else◌, is_ok}
use Rattle.value_cursor.specs.declared.cursor.Cursor.{Cursor}
use Rattle.value_cursor.proofs.Searching.{begins-there, calls-within, inside-there}
use Rattle.value_cursor.proofs.cursor.Cursor.begin.Goals as goal

pub unwrap-requires : goal.unwrap-requires
unwrap-requires c =
    let r = c.requires in
    c.extend_from_slice.ensures.succeeds (omega (arith, c.clear.ensures.len, c.clear.ensures.capacity, ap length c.as_slice.ensures.value, calls-within r.0 r.1 r.2 c.args.finder.now r.4, r.3.standing.room))

pub returns-clause-inside : goal.returns-clause-inside
returns-clause-inside c = λ names G number inside stands.
    let f = c.args.finder.now in
    let old = c.clear.new.self.items in
    let now : Cursor = record { here = Some f.here; calls = c.extend_from_slice.new.self; opened = 0; kept = c.forget.new.self } in
    let calls : c.extend_from_slice.new.self.items ≡ f.calls.items =
    c.extend_from_slice.ensures.items ∙ ap (λ b. if b then old ++ c.as_slice.result.now else old) (ap is_ok c.unwrap.ensures) ∙ ap (λ ss. ss ++ c.as_slice.result.now) c.clear.ensures.items ∙ c.as_slice.ensures.value in
    inside-there names G number f stands now refl calls c.forget.ensures.again refl (omega (arith, c.clear.ensures.capacity, c.extend_from_slice.ensures.capacity, inside.standing.room)) (c.forget.ensures.kept G inside.standing.kept)

pub returns-clause-begins : goal.returns-clause-begins
returns-clause-begins c = λ names G number stands.
    let f = c.args.finder.now in
    let old = c.clear.new.self.items in
    let now : Cursor = record { here = Some f.here; calls = c.extend_from_slice.new.self; opened = 0; kept = c.forget.new.self } in
    let calls : c.extend_from_slice.new.self.items ≡ f.calls.items =
    c.extend_from_slice.ensures.items ∙ ap (λ b. if b then old ++ c.as_slice.result.now else old) (ap is_ok c.unwrap.ensures) ∙ ap (λ ss. ss ++ c.as_slice.result.now) c.clear.ensures.items ∙ c.as_slice.ensures.value in
    begins-there names G number f stands now refl calls c.forget.ensures.again refl
