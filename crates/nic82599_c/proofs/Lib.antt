mod Courses
mod Frames
mod HandleForm
mod Handles
mod IntoOut
mod IntoParts
mod Lending
mod Texts
