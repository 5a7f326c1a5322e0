mod Drawing
mod Finding
mod Marks
