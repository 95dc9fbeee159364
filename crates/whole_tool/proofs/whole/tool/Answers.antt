use Rattle.std.proofs.Common.{refl, sym}
use Rattle.whole_tool.proofs.promises.Load
use Rattle.whole_tool.proofs.promises.LookUp
use Rattle.whole_tool.proofs.promises.NoForm
use Rattle.whole_tool.proofs.promises.Print
use Rattle.whole_tool.proofs.promises.Question
use Rattle.whole_tool.proofs.promises.Run
use Rattle.whole_tool.proofs.promises.Stack
use Rattle.whole_tool.proofs.whole.tool.Goals as goal

pub returns-in-Some-Run : goal.returns-in-Some-Run
returns-in-Some-Run g c =
    let form = rw c.in-Some-Run.field-0-is at (rw c.in-Some-Run.is at c.form_of.ensures.form) in
    let is = sym form in
    let made = c.run.ensures in
    record {
      headline = Run.run_headline made.runs;
      written = Run.run_pages is made.runs;
      refusals = Run.run_refusals is made.runs;
      statuses = Run.run_statuses is made.runs made.ended.known;
      failed = Run.run_failures is made.runs made.ended;
      stopped = Run.run_stops is made.runs;
      alone = Run.run_alone is made.ended.known;
      left = Run.run_rest is made.ended;
      counted = Run.run_counts is made.works made.ended.painted made.ended.measured;
      asked = Run.run_asked is made.works;
    }

pub returns-in-Some-Stack : goal.returns-in-Some-Stack
returns-in-Some-Stack g c =
    let form = rw c.in-Some-Stack.field-0-is at (rw c.in-Some-Stack.is at c.form_of.ensures.form) in
    let is = sym form in
    let made = c.stack.ensures in
    record {
      headline = λ _ _ of _. absurd (cc (is, of.words));
      written = Stack.stack_pages is made.runs;
      refusals = Stack.stack_refusals is made.runs;
      statuses = Stack.stack_statuses is made.ended.known;
      failed = Stack.stack_failures is made.runs made.ended;
      stopped = Stack.stack_stops is made.runs;
      alone = Stack.stack_alone is made.ended.known;
      left = Stack.stack_rest is made.ended;
      counted = Stack.stack_counts is made.works made.ended.painted made.ended.measured;
      asked = Stack.stack_asked is made.works;
    }

pub returns-in-Some-Dump : goal.returns-in-Some-Dump
returns-in-Some-Dump g c =
    let form = rw c.in-Some-Dump.field-0-is at (rw c.in-Some-Dump.is at c.form_of.ensures.form) in
    let is = sym form in
    let made = c.dump.ensures in
    record {
      headline = λ _ _ of _. absurd (cc (is, of.words));
      written = Print.dump_pages is made.dumps;
      refusals = Print.dump_refusals is made.dumps;
      statuses = Print.dump_statuses is made.known;
      failed = Print.dump_failures is made.known refl made.sink_failed made.shelf_failed made.shelf_later;
      stopped = Print.dump_stops is made.nothing_written;
      alone = Print.dump_alone is made.known refl refl;
      left = Print.dump_rest is made.files_stay;
      counted = Print.dump_counts is refl;
      asked = Print.dump_asked is made.fetched;
    }

pub returns-in-Some-Gen : goal.returns-in-Some-Gen
returns-in-Some-Gen g c =
    let form = rw c.in-Some-Gen.field-0-is at (rw c.in-Some-Gen.is at c.form_of.ensures.form) in
    let is = sym form in
    let made = c.run_load.ensures in
    record {
      headline = λ _ _ of _. absurd (cc (is, of.words));
      written = Load.load_pages is made.dumps;
      refusals = Load.load_refusals is made.known;
      statuses = Load.load_statuses is made.known;
      failed = Load.load_failures is made.known refl made.sink_failed refl;
      stopped = Load.load_stops is made.nothing_written;
      alone = Load.load_alone is made.known refl refl;
      left = Load.load_rest is refl;
      counted = Load.load_counts is made.worth made.works made.painted made.measured;
      asked = Load.load_asked is;
    }

pub returns-in-Some-Lookup : goal.returns-in-Some-Lookup
returns-in-Some-Lookup g c =
    let form = rw c.in-Some-Lookup.field-0-is at (rw c.in-Some-Lookup.is at c.form_of.ensures.form) in
    let is = sym form in
    let made = c.lookup.ensures in
    record {
      headline = λ _ _ of _. absurd (cc (is, of.words));
      written = LookUp.lookup_pages is made.looks_up;
      refusals = LookUp.lookup_refusals is made.looks_up;
      statuses = LookUp.lookup_statuses is made.known;
      failed = LookUp.lookup_failures is made.known refl made.sink_failed made.shelf_failed made.shelf_later;
      stopped = LookUp.lookup_stops is made.nothing_written;
      alone = LookUp.lookup_alone is made.known refl refl;
      left = LookUp.lookup_rest is made.files_stay;
      counted = LookUp.lookup_counts is refl;
      asked = LookUp.lookup_asked is made.fetched;
    }

pub returns-in-Some-Focus : goal.returns-in-Some-Focus
returns-in-Some-Focus g c =
    let form = rw c.in-Some-Focus.field-0-is at (rw c.in-Some-Focus.is at c.form_of.ensures.form) in
    let is = sym form in
    let made = c.carry_out.ensures in
    record {
      headline = λ _ _ of _. absurd (cc (is, of.words));
      written = Question.focus_pages is made.asks;
      refusals = Question.focus_refusals is made.asks;
      statuses = Question.focus_statuses is made.ended.known;
      failed = Question.focus_failures is made.asks made.ended;
      stopped = Question.focus_stops is made.asks;
      alone = Question.focus_alone is made.ended.known;
      left = Question.focus_rest is made.ended;
      counted = Question.focus_counts is made.asks made.ended.painted made.ended.measured;
      asked = Question.focus_asked is;
    }

pub returns-in-None : goal.returns-in-None
returns-in-None g c =
    let form = rw c.in-None.is at c.form_of.ensures.form in
    let is = sym form in
    record {
      headline = λ _ _ of _. absurd (cc (is, of.words));
      written = NoForm.none_pages is;
      refusals = NoForm.none_refusals is;
      statuses = NoForm.none_statuses is;
      failed = NoForm.none_failures is;
      stopped = NoForm.none_stops is;
      alone = NoForm.none_alone is refl refl refl refl;
      left = NoForm.none_rest is;
      counted = NoForm.none_counts is refl;
      asked = NoForm.none_asked is;
    }
