use Rattle.std.proofs.Common.{◌≡◌, ◌+◌, ◌++◌, ◌∙◌, ℕ, List, [], length, take, refl, ap, arith, sym, subst, length-append, length-take}
use Rattle.std.specs.Prelude.{Err}
use Rattle.std.proofs.lemmas.List.{take-take}
use Rattle.std.proofs.lemmas.Result.{err_from_is_err_and}
use Rattle.script_lines.specs.cutting.Lines.{cut_of, lines_of}
use Rattle.whole_tool.specs.declared.script.End.TheVariants as end
use Rattle.whole_tool.specs.Carrier.{carried_of}
use Rattle.whole_tool.specs.Run.{StopsIn}
use Rattle.whole_tool.specs.Works.{Works, trace}
use Rattle.whole_tool.specs.Transcript.{after_from}
use Rattle.whole_tool.proofs.lines.RunLaws.{works_of}
use Rattle.whole_tool.proofs.lines.ScriptLaws.{HasTakenAll, Consumes-nil, Consumes-Consumes, Consumes-Keeps, ends_last, ends_long, ends_source, ends_stopped, ends_well, piece_short, taken_by_end, taken_on}
use Rattle.whole_tool.proofs.script.run_to_end.Given.{Over}
use Rattle.whole_tool.proofs.script.run_to_end.Goals.{After-finish}
use Rattle.whole_tool.proofs.script.run_to_end.Goals as goal

pub loop-n-init : goal.loop-n-init
loop-n-init g c = record {
  bound = omega arith;
  numbers = omega (arith, c.requires.numbers);
  taken = record { bytes = []; consumed = Consumes-nil (g.S.Source.left c.args.source.now); count = refl; following = c.requires.following (g.F.Shelf.files c.args.shelf.now) (trace (g.K.Sink.state c.args.sink.now) c.args.work.now (g.F.Shelf.fetches c.args.shelf.now)) };
  files = refl;
  fetches = refl;
  painted = omega arith;
  measured = omega arith;
  reads = refl;
  writes = refl;
}

-- a read failed

pub returns-in_default-clause-runs : goal.returns-in_default-clause-runs
returns-in_default-clause-runs g c =
    let t = c.loop-n.invariant.taken in
    let start = carried_of c.args.run.now.runner.carrier in
    let first = trace (g.K.Sink.state c.args.sink.now) c.args.work.now (g.F.Shelf.fetches c.args.shelf.now) in
    let last = trace (g.K.Sink.state c.loop-n.sink) c.loop-n.work (g.F.Shelf.fetches c.loop-n.shelf) in
    let lost = Consumes-Keeps _ _ _ t.bytes t.consumed c.in_default.ensures.bytes in
    record {
      runs = λ files script at_hand reported. ends_source start files first last _ _ script t.bytes reported lost (omega (arith, t.count))
          (works_of start files first last c.loop-n.run.runner (cut_of t.bytes).lines (t.following.runner files (c.loop-n.invariant.files ∙ at_hand)));
      end = tt;
      taken = t.bytes;
      consumed = lost;
      most = omega (arith, t.count);
    }

-- the run stopped in a piece

pub returns-in_err-piece-clause-runs : goal.returns-in_err-piece-clause-runs
returns-in_err-piece-clause-runs g c =
    let p = err_from_is_err_and c.from_residual.result c.from_residual.ensures.1 in
    let e : c.from_residual.result ≡ Err (end.Stopped c.in_err-piece.field-0.0) = cc (p.1, p.2) in
    let t = c.loop-n.invariant.taken in
    let start = carried_of c.args.run.now.runner.carrier in
    let first = trace (g.K.Sink.state c.args.sink.now) c.args.work.now (g.F.Shelf.fetches c.args.shelf.now) in
    let last = trace (g.K.Sink.state c.piece.new.sink) c.piece.new.work (g.F.Shelf.fetches c.piece.new.shelf) in
    let buffer = c.read.new.buf in
    let bytes = take c.in-Ok.n buffer in
    let front : take c.min.result bytes ≡ take c.min.result buffer = take-take c.min.result c.in-Ok.n buffer (omega (arith, c.min.ensures)) in
    let short = piece_short t.bytes buffer c.loop-n.left c.min.result t.count (omega (arith, c.min.ensures)) in
    let lost = Consumes-Consumes _ _ _ t.bytes bytes t.consumed c.in-Ok.ensures.bytes.0 in
    let stops = c.in_err-piece.ensures.stopped start first t.bytes short t.following in
    rw e (record {
      runs = λ files script at_hand reported. ends_stopped start files first last _ _ script t.bytes bytes c.loop-n.left c.min.result c.in_err-piece.field-0.0 reported lost t.count (omega (arith, c.min.ensures))
          (subst (λ (l : List ℕ). StopsIn start files first last (cut_of (t.bytes ++ l)).lines c.in_err-piece.field-0.0) (sym front) (stops files (c.loop-n.invariant.files ∙ at_hand)));
      end = tt;
      taken = t.bytes ++ bytes;
      consumed = lost;
      most = omega (arith, length-append t.bytes bytes, length-take c.in-Ok.n buffer, t.count, c.read.auto.buf, length-take c.min-room.result c.loop-n.buffer, c.min-room.ensures);
    })

-- one byte too many came

pub returns-then-n-left-clause-runs : goal.returns-then-n-left-clause-runs
returns-then-n-left-clause-runs g c =
    let t = c.loop-n.invariant.taken in
    let start = carried_of c.args.run.now.runner.carrier in
    let first = trace (g.K.Sink.state c.args.sink.now) c.args.work.now (g.F.Shelf.fetches c.args.shelf.now) in
    let last = trace (g.K.Sink.state c.piece.new.sink) c.piece.new.work (g.F.Shelf.fetches c.piece.new.shelf) in
    let buffer = c.read.new.buf in
    let bytes = take c.in-Ok.n buffer in
    let most : c.min.result ≡ c.loop-n.left = omega (arith, c.min.ensures, c.if-n-left.true) in
    let front : take c.loop-n.left bytes ≡ take c.min.result buffer = take-take c.loop-n.left c.in-Ok.n buffer (omega (arith, c.if-n-left.true)) ∙ ap (λ n. take n buffer) (sym most) in
    let short = piece_short t.bytes buffer c.loop-n.left c.min.result t.count (omega (arith, c.min.ensures)) in
    let many : length bytes ≡ c.loop-n.left + 1 = omega (arith, length-take c.in-Ok.n buffer, c.in-Ok.ensures.bound, c.if-n-left.true, c.read.auto.buf, length-take c.min-room.result c.loop-n.buffer, c.min-room.ensures) in
    let lost = Consumes-Consumes _ _ _ t.bytes bytes t.consumed c.in-Ok.ensures.bytes.0 in
    let read = c.in_ok-piece.ensures.done start first t.bytes short t.following in
    record {
      runs = λ files script at_hand reported. ends_long start files first last _ _ script t.bytes bytes c.loop-n.left reported lost t.count many
          (subst (λ (l : List ℕ). Works start files first last (cut_of (t.bytes ++ l)).lines) (sym front) (works_of start files first last _ _ (read.runner files (c.loop-n.invariant.files ∙ at_hand))));
      end = tt;
      taken = t.bytes ++ bytes;
      consumed = lost;
      most = omega (arith, length-append t.bytes bytes, many, t.count);
    }

-- the next piece

pub loop-n-preserved : goal.loop-n-preserved
loop-n-preserved g c =
    let t = c.loop-n.invariant.taken in
    let start = carried_of c.args.run.now.runner.carrier in
    let first = trace (g.K.Sink.state c.args.sink.now) c.args.work.now (g.F.Shelf.fetches c.args.shelf.now) in
    let buffer = c.read.new.buf in
    let all : c.min.result ≡ c.in-Ok.n = omega (arith, c.min.ensures, c.if-n-left.false) in
    let short = piece_short t.bytes buffer c.loop-n.left c.min.result t.count (omega (arith, c.min.ensures)) in
    let read = c.in_ok-piece.ensures.done start first t.bytes short t.following in
    record {
      bound = omega (arith, c.loop-n.invariant.bound);
      numbers = omega (arith, c.loop-n.invariant.numbers, c.piece.ensures.numbers, length-take c.min.result buffer, all, c.if-n-left.false);
      taken = rw c.piece.ensures.files_stay (taken_on _ _ _ _ _ _ _ _ _ _ c.loop-n.left c.in-Ok.n c.min.result buffer t c.in-Ok.ensures.bytes.0 (omega (arith, c.in-Ok.ensures.bound)) (omega (arith, c.if-n-left.false)) all read);
      files = c.piece.ensures.files_stay ∙ c.loop-n.invariant.files;
      fetches = c.in_ok-piece.ensures.shelf_failed ∙ c.loop-n.invariant.fetches;
      painted = omega (arith, c.loop-n.invariant.painted, c.piece.ensures.painted);
      measured = omega (arith, c.loop-n.invariant.measured, c.piece.ensures.measured);
      reads = c.in-Ok.ensures.counted ∙ c.loop-n.invariant.reads;
      writes = c.in_ok-piece.ensures.counted ∙ c.loop-n.invariant.writes;
    }

-- the end of the script

all_taken : (g : Over) (c : After-finish g) → HasTakenAll (carried_of c.args.run.now.runner.carrier) (g.F.Shelf.files c.piece.new.shelf) (g.S.Source.left c.args.source.now) (g.S.Source.left c.read.new.self)
    (trace (g.K.Sink.state c.args.sink.now) c.args.work.now (g.F.Shelf.fetches c.args.shelf.now)) (trace (g.K.Sink.state c.piece.new.sink) c.piece.new.work (g.F.Shelf.fetches c.piece.new.shelf)) c.piece.new.self
all_taken g c =
    let start = carried_of c.args.run.now.runner.carrier in
    let first = trace (g.K.Sink.state c.args.sink.now) c.args.work.now (g.F.Shelf.fetches c.args.shelf.now) in
    let last = trace (g.K.Sink.state c.piece.new.sink) c.piece.new.work (g.F.Shelf.fetches c.piece.new.shelf) in
    let so_far = c.loop-n.invariant.taken in
    let buffer = c.read.new.buf in
    let all : c.min.result ≡ c.in-Ok.n = omega (arith, c.min.ensures, c.if-n-left.false) in
    let short = piece_short so_far.bytes buffer c.loop-n.left c.min.result so_far.count (omega (arith, c.min.ensures)) in
    let read = c.in_ok-piece.ensures.done start first so_far.bytes short so_far.following in
    let t = taken_on start (g.F.Shelf.files c.loop-n.shelf) (g.S.Source.left c.args.source.now) _ (g.S.Source.left c.read.new.self) first _ last _ c.piece.new.self c.loop-n.left c.in-Ok.n c.min.result buffer so_far c.in-Ok.ensures.bytes.0
    (omega (arith, c.in-Ok.ensures.bound)) (omega (arith, c.if-n-left.false)) all read in
    record {
      bytes = t.bytes;
      consumed = t.consumed;
      ended = c.in-Ok.ensures.bytes.1 (omega (arith, c.if-n-eq0.true)) (omega (arith, c.read.auto.buf, length-take c.min-room.result c.loop-n.buffer, c.min-room.ensures, c.min-room.array_long));
      fits = omega (arith, t.count);
      following = rw c.piece.ensures.files_stay t.following;
    }

pub returns-in_err-finish-clause-runs : goal.returns-in_err-finish-clause-runs
returns-in_err-finish-clause-runs g c =
    let p = err_from_is_err_and c.from_residual-in_err-finish.result c.from_residual-in_err-finish.ensures.1 in
    let e : c.from_residual-in_err-finish.result ≡ Err (end.Stopped c.in_err-finish.field-0.0) = cc (p.1, p.2) in
    let start = carried_of c.args.run.now.runner.carrier in
    let first = trace (g.K.Sink.state c.args.sink.now) c.args.work.now (g.F.Shelf.fetches c.args.shelf.now) in
    let t = all_taken g (goal.at.returns-in_err-finish-clause-runs g c).After-finish in
    rw e (record {
      runs = λ files script at_hand reported. ends_last _ files _ _ _ _ script t.bytes c.in_err-finish.field-0.0 reported t.consumed t.ended t.fits
          (c.in_err-finish.ensures.stopped start files first t.bytes (c.piece.ensures.files_stay ∙ c.loop-n.invariant.files ∙ at_hand) (omega (arith, t.fits)) t.following);
      end = tt;
      taken = t.bytes;
      consumed = t.consumed;
      most = omega (arith, t.fits);
    })

pub returns-clause-runs : goal.returns-clause-runs
returns-clause-runs g c =
    let start = carried_of c.args.run.now.runner.carrier in
    let first = trace (g.K.Sink.state c.args.sink.now) c.args.work.now (g.F.Shelf.fetches c.args.shelf.now) in
    let t = all_taken g (goal.at.returns-clause-runs g c).After-finish in
    rw c.refused.ensures (record {
      runs = λ files script at_hand reported. ends_well _ files _ _ _ _ script t.bytes c.finish.new.self.runner reported t.consumed t.ended t.fits
          (c.in_ok-finish.ensures.done start files first t.bytes (c.piece.ensures.files_stay ∙ c.loop-n.invariant.files ∙ at_hand) (omega (arith, t.fits)) t.following);
      end = t.ended;
      taken = t.bytes;
      consumed = t.consumed;
      most = omega (arith, t.fits);
    })

pub returns-clause-world : goal.returns-clause-world
returns-clause-world g c files script at_hand reported =
    let start = carried_of c.args.run.now.runner.carrier in
    let first = trace (g.K.Sink.state c.args.sink.now) c.args.work.now (g.F.Shelf.fetches c.args.shelf.now) in
    let t = all_taken g (goal.at.returns-clause-world g c).After-finish in
    (c.in_ok-finish.ensures.done start files first t.bytes (c.piece.ensures.files_stay ∙ c.loop-n.invariant.files ∙ at_hand) (omega (arith, t.fits)) t.following).carried
    ∙ ap (λ (bytes : List ℕ). (after_from start files (lines_of bytes)).carried) (taken_by_end _ _ script t.bytes reported t.consumed t.ended)
