use Rattle.std.proofs.Common.{◌≡◌, ◌+◌, ◌≤◌, length, vec_len, sym, ap, ◌∙◌, arith}
use Rattle.std.proofs.lemmas.List.{length-take-le}
use Rattle.bias_cli.proofs.Takes.{in_buffer, front_length, took_behind, took_within, took_none}
use Rattle.bias_cli.proofs.input.read_piece.Given.{Over}
use Rattle.bias_cli.proofs.input.read_piece.Goals as goal
use Rattle.bias_cli.proofs.input.read_piece.Goals.{After-read}

-- a read leaves as long a buffer as it was given
as_given : (g : Over) (c : After-read g) → length c.read.new.into ≡ c.min-room.result
as_given g c =
    let within : c.min-room.result ≤ 4096 = omega (arith, c.min-room.ensures) in
    c.read.auto.into ∙ length-take-le c.min-room.result _ within

pub overflow_add-most : goal.overflow_add-most
overflow_add-most g c = let limit = c.requires.limit in omega (arith, limit)

pub overflow_sub-most : goal.overflow_sub-most
overflow_sub-most g c =
    omega (arith, c.len.ensures, c.requires.room)

pub slice_bounds-buffer-end : goal.slice_bounds-buffer-end
slice_bounds-buffer-end g c = let least = c.min-room.ensures in omega (arith, least)

pub slice_bounds-read-end : goal.slice_bounds-read-end
slice_bounds-read-end g c =
    let within : c.min-room.result ≤ 4096 = omega (arith, c.min-room.ensures) in
    sym (length-take-le c.min-room.result _ within)

pub returns-in_default-clause-counted : goal.returns-in_default-clause-counted
returns-in_default-clause-counted g c = c.read.ensures.counted

pub returns-in_default-clause-fault : goal.returns-in_default-clause-fault
returns-in_default-clause-fault g c = λ e. c.in_default.ensures.failed

pub returns-in_default-clause-more : goal.returns-in_default-clause-more
returns-in_default-clause-more g c = tt

pub returns-in_default-clause-most : goal.returns-in_default-clause-most
returns-in_default-clause-most g c = tt

pub returns-in_default-clause-took : goal.returns-in_default-clause-took
returns-in_default-clause-took g c = tt

pub returns-in_default-clause-some : goal.returns-in_default-clause-some
returns-in_default-clause-some g c =
    let s = g.S.Source in took_none _ (s.left c.args.source.now) (s.left c.read.new.self) c.in_default.ensures.kept

pub returns-in_default-clause-ended : goal.returns-in_default-clause-ended
returns-in_default-clause-ended g c = tt

pub slice_bounds-buffer-end-2 : goal.slice_bounds-buffer-end-2
slice_bounds-buffer-end-2 g c = in_buffer c.in-Ok.n c.read.new.into _ c.in-Ok.ensures.bound

pub slice_bounds-extend_from_slice-end : goal.slice_bounds-extend_from_slice-end
slice_bounds-extend_from_slice-end g c = sym (front_length c.in-Ok.n c.read.new.into _ c.in-Ok.ensures.bound)

pub returns-in-Ok-extend_from_slice-clause-counted : goal.returns-in-Ok-extend_from_slice-clause-counted
returns-in-Ok-extend_from_slice-clause-counted g c = c.read.ensures.counted

pub returns-in-Ok-extend_from_slice-clause-fault : goal.returns-in-Ok-extend_from_slice-clause-fault
returns-in-Ok-extend_from_slice-clause-fault g c = λ e. absurd (cc e)

pub returns-in-Ok-extend_from_slice-clause-more : goal.returns-in-Ok-extend_from_slice-clause-more
returns-in-Ok-extend_from_slice-clause-more g c =
    c.in-Ok-extend_from_slice.ensures.len ∙ ap (λ k. vec_len c.args.bytes.now + k) (front_length c.in-Ok.n c.read.new.into _ c.in-Ok.ensures.bound)

pub returns-in-Ok-extend_from_slice-clause-most : goal.returns-in-Ok-extend_from_slice-clause-most
returns-in-Ok-extend_from_slice-clause-most g c =
    let long = as_given g (goal.at.returns-in-Ok-extend_from_slice-clause-most g c).After-read in
    let bound = c.in-Ok.ensures.bound in
    let more : vec_len c.extend_from_slice.new.self ≡ vec_len c.args.bytes.now + c.in-Ok.n =
    c.in-Ok-extend_from_slice.ensures.len ∙ ap (λ k. vec_len c.args.bytes.now + k) (front_length c.in-Ok.n c.read.new.into _ bound) in
    omega (arith, c.len.ensures, c.requires.room, c.min-room.ensures, long, bound, more)

pub returns-in-Ok-extend_from_slice-clause-took : goal.returns-in-Ok-extend_from_slice-clause-took
returns-in-Ok-extend_from_slice-clause-took g c =
    let s = g.S.Source in
    took_behind c.in-Ok.n (s.left c.args.source.now) (s.left c.read.new.self) c.read.new.into _ c.args.bytes.now.items c.extend_from_slice.new.self.items
    c.in-Ok.ensures.bound c.in-Ok.ensures.given c.in-Ok-extend_from_slice.ensures.items

pub returns-in-Ok-extend_from_slice-clause-some : goal.returns-in-Ok-extend_from_slice-clause-some
returns-in-Ok-extend_from_slice-clause-some g c =
    let s = g.S.Source in
    let len = c.len.ensures in
    let least = c.min-room.ensures in
    let long = as_given g (goal.at.returns-in-Ok-extend_from_slice-clause-some g c).After-read in
    let bound = c.in-Ok.ensures.bound in
    took_within c.in-Ok.n _ (s.left c.args.source.now) (s.left c.read.new.self) c.read.new.into (omega (arith, len, least, long, bound)) c.in-Ok.ensures.given

pub returns-in-Ok-extend_from_slice-clause-ended : goal.returns-in-Ok-extend_from_slice-clause-ended
returns-in-Ok-extend_from_slice-clause-ended g c = λ none.
    let long = as_given g (goal.at.returns-in-Ok-extend_from_slice-clause-ended g c).After-read in
    c.in-Ok.ensures.ended none (omega (arith, c.len.ensures, c.requires.room, c.min-room.ensures, long))

pub returns-in-Err-clause-counted : goal.returns-in-Err-clause-counted
returns-in-Err-clause-counted g c = c.read.ensures.counted

pub returns-in-Err-clause-fault : goal.returns-in-Err-clause-fault
returns-in-Err-clause-fault g c = λ e. absurd (cc e)

pub returns-in-Err-clause-more : goal.returns-in-Err-clause-more
returns-in-Err-clause-more g c = tt

pub returns-in-Err-clause-most : goal.returns-in-Err-clause-most
returns-in-Err-clause-most g c = tt

pub returns-in-Err-clause-took : goal.returns-in-Err-clause-took
returns-in-Err-clause-took g c = tt

pub returns-in-Err-clause-some : goal.returns-in-Err-clause-some
returns-in-Err-clause-some g c =
    let s = g.S.Source in
    let len = c.len.ensures in
    let least = c.min-room.ensures in
    let long = as_given g (goal.at.returns-in-Err-clause-some g c).After-read in
    let bound = c.in-Ok.ensures.bound in
    took_within c.in-Ok.n _ (s.left c.args.source.now) (s.left c.read.new.self) c.read.new.into (omega (arith, len, least, long, bound)) c.in-Ok.ensures.given

pub returns-in-Err-clause-ended : goal.returns-in-Err-clause-ended
returns-in-Err-clause-ended g c = tt
