use borrow.Author.Rules.{rules}
use mathlib.Core.Path.{◌≡◌}
use lib.ListN.{length}
use Rattle.dispatch.specs.Ready.{FreeReady}
use Rattle.dispatch.proofs.Admits.{free_as}
use Rattle.dispatch.proofs.Carries.{sense_carries, buffered_carries, buffer_carries, initialize_carries}
use Rattle.dispatch.proofs.groups.do_free.Goals as goal

pub request_sense-requires : goal.request_sense-requires
unfolding FreeReady
request_sense-requires c =
    (c.requires.0.drive, free_as _ _ _ _ c.in-RequestSense.is c.requires.1)

pub write_buffer-requires : goal.write_buffer-requires
unfolding FreeReady
write_buffer-requires c =
    (c.requires.0.drive, free_as _ _ _ _ c.in-WriteBuffer.is c.requires.1)

pub read_buffer-requires : goal.read_buffer-requires
unfolding FreeReady
read_buffer-requires c =
    (c.requires.0.drive, free_as _ _ _ _ c.in-ReadBuffer.is c.requires.1)

pub initialize-requires : goal.initialize-requires
unfolding FreeReady
initialize-requires c =
    (c.requires.0, free_as _ _ _ _ c.in-Initialize.is c.requires.1)

pub returns-in-RequestSense : goal.returns-in-RequestSense
returns-in-RequestSense c =
    let called = c.request_sense.ensures in
    sense_carries _ _ _ _ _ _ _ _ c.in-RequestSense.is called.0 _ called.1

pub returns-in-WriteBuffer : goal.returns-in-WriteBuffer
returns-in-WriteBuffer c =
    let called = c.write_buffer.ensures in
    buffered_carries _ _ _ _ _ _ _ _ c.in-WriteBuffer.is called.0 _ called.1

pub returns-in-ReadBuffer : goal.returns-in-ReadBuffer
returns-in-ReadBuffer c =
    let called = c.read_buffer.ensures in
    buffer_carries _ _ _ _ _ _ _ _ c.in-ReadBuffer.is (let whole : length c.args.buffer.now ≡ 512 = search rules in whole) called.0 _ called.1

pub returns-in-Initialize : goal.returns-in-Initialize
returns-in-Initialize c = initialize_carries _ _ _ _ _ _ _ _ c.in-Initialize.is c.initialize.ensures
