use Rattle.std.proofs.Common.{◌≡◌, ◌<◌, ◌≤◌, [], ◌∷◌, ◌++◌, length, get_or, refl, sym, ap, ◌∙◌, arith, append_assoc}
use Rattle.std.proofs.lemmas.Option.{get_or_from_slice_get}
use Rattle.machine_words.specs.MadeWords.{made_words}
use Rattle.machine_words.proofs.Loops.{written_more, written_all}
use Rattle.machine_words.proofs.words.add_made.Goals as goal

pub loop-t-preserved : goal.loop-t-preserved
loop-t-preserved c =
    let inv = c.loop-t.invariant in
    let rows = c.args.register.now.made in
    let row = c.row-row.result.now in
    let out = c.loop-t.out.items in
    let within : c.loop-t.t < length rows = omega (arith, inv.end) in
    let at : row ≡ get_or rows c.loop-t.t row = sym (get_or_from_slice_get rows c.loop-t.t row row c.row-row.ensures) in
    let added : c.add_numbers.new.out.items ≡ out ++ (length row ∷ row) =
    c.in_ok-add_numbers.ensures ∙ ap (λ zs. zs ++ row) c.in_ok-add.ensures ∙ append_assoc out (length row ∷ []) row in
    record {
      end = inv.end;
      words = written_more made_words rows c.loop-t.t row (length row ∷ row) out c.add_numbers.new.out.items
          (c.args.out.now.items ++ made_words rows) within at refl
          inv.words added;
    }

pub returns : goal.returns
returns c =
    let inv = c.loop-t.invariant in
    let rows = c.args.register.now.made in
    let past : length rows ≤ c.loop-t.t = omega (arith, inv.end) in
    written_all made_words rows c.loop-t.t c.loop-t.out.items (c.args.out.now.items ++ made_words rows) past refl inv.words
