-- What a request asks for has its case.
use mathlib.Core.Path.{sym, subst, ◌∙◌}
use Prim.Native.Nat.{ℕ, ◌<◌}
use native.Mathlib.Omega.{arith}
use Rattle.rows.specs.Rows.{word}
use Rattle.obey.specs.declared.requests.Asks.TheVariants.{Read}
use Rattle.obey.specs.Requests.{Means}
use Rattle.obey.proofs.Obeyed.{reads, holds, blanks, lays, sets-writer, sets-reader, writes, checks, looks, nothing}
use Rattle.obey.proofs.requests.obey.Goals as goal

pub read-requires : goal.read-requires
read-requires c = (
  c.requires.0,
  c.requires.1,
  subst (λ (n : ℕ). Means n (Read c.in-Read.which)) c.word_in.ensures c.in-Read.ensures,
)

pub returns-in-Read : goal.returns-in-Read
returns-in-Read c =
    let a = c.args in
    reads a.q.now a.desk.now a.held.now a.units.now a.records.now _ _ _ _ c.in-Read.which
    (subst (λ (n : ℕ). Means n (Read c.in-Read.which)) c.word_in.ensures c.in-Read.ensures) c.read.ensures

pub returns-in-LayHeld : goal.returns-in-LayHeld
returns-in-LayHeld c =
    let a = c.args in
    holds a.q.now a.desk.now a.held.now a.units.now a.records.now _ (sym c.word_in.ensures ∙ c.in-LayHeld.ensures) c.lay_asked.ensures

pub returns-in-Blank : goal.returns-in-Blank
returns-in-Blank c =
    let a = c.args in
    let b = c.blank_all.ensures in
    blanks a.q.now a.desk.now a.held.now a.units.now a.records.now _ _ _ (sym c.word_in.ensures ∙ c.in-Blank.ensures) b.0 b.1 b.2

pub returns-in-LayDesk : goal.returns-in-LayDesk
returns-in-LayDesk c =
    let a = c.args in
    lays a.q.now a.desk.now a.held.now a.units.now a.records.now _ (sym c.word_in.ensures ∙ c.in-LayDesk.ensures) c.lay_asked-in-LayDesk.ensures

pub returns-in-SetWriter : goal.returns-in-SetWriter
returns-in-SetWriter c =
    let a = c.args in
    sets-writer a.q.now a.desk.now a.held.now a.units.now a.records.now _ (sym c.word_in.ensures ∙ c.in-SetWriter.ensures) c.set_writer.ensures

pub returns-in-SetReader : goal.returns-in-SetReader
returns-in-SetReader c =
    let a = c.args in
    sets-reader a.q.now a.desk.now a.held.now a.units.now a.records.now _ (sym c.word_in.ensures ∙ c.in-SetReader.ensures) c.set_reader.ensures

pub returns-in-Write : goal.returns-in-Write
returns-in-Write c =
    let a = c.args in
    writes a.q.now a.desk.now a.held.now a.units.now a.records.now _ (sym c.word_in.ensures ∙ c.in-Write.ensures) c.write.ensures

pub returns-in-Check : goal.returns-in-Check
returns-in-Check c =
    let a = c.args in
    checks a.q.now a.desk.now a.held.now a.units.now a.records.now _ (sym c.word_in.ensures ∙ c.in-Check.ensures) c.check.ensures

pub returns-in-Look : goal.returns-in-Look
returns-in-Look c =
    let a = c.args in
    looks a.q.now a.desk.now a.held.now a.units.now a.records.now _ (sym c.word_in.ensures ∙ c.in-Look.ensures) c.look.ensures

pub returns-in-Nothing : goal.returns-in-Nothing
returns-in-Nothing c =
    let a = c.args in
    let large : 9 < word a.q.now 0 = omega (arith, c.word_in.ensures, c.in-Nothing.ensures) in
    nothing a.q.now a.desk.now a.held.now a.units.now a.records.now large
