use Rattle.boot_steps.proofs.Copies.{ran_to_dfu, ran_to_active}
use Rattle.boot_steps.proofs.Room.{pages_few, room_to_dfu, room_to_active}
use Rattle.boot_steps.proofs.run_step.Goals as goal

pub step-c-requires : goal.step-c-requires
step-c-requires c = let p = c.requires in (p.2, rw p.1 (pages_few p.0))

pub copy_page_once_to_dfu-requires : goal.copy_page_once_to_dfu-requires
copy_page_once_to_dfu-requires c =
    let p = c.requires in
    room_to_dfu p.0 p.1 p.2 c.step-c.ensures c.in-ToDfu.is

pub returns-in-ToDfu : goal.returns-in-ToDfu
returns-in-ToDfu c =
    let a = c.args in
    ran_to_dfu a.g _ a.active.now a.dfu.now a.state.now _ _
    c.step-c.ensures _
    c.in-ToDfu.is
    c.copy_page_once_to_dfu.ensures

pub copy_page_once_to_active-requires : goal.copy_page_once_to_active-requires
copy_page_once_to_active-requires c =
    let p = c.requires in
    room_to_active p.0 p.1 p.2 c.step-c.ensures c.in-ToActive.is

pub returns-in-ToActive : goal.returns-in-ToActive
returns-in-ToActive c =
    let a = c.args in
    ran_to_active a.g _ a.active.now a.dfu.now a.state.now _ _
    c.step-c.ensures _
    c.in-ToActive.is
    c.copy_page_once_to_active.ensures
